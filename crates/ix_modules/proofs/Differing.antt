-- The behaviours of a typed text have names that differ.
use Rattle.std.proofs.Common.{◌≡◌, ◌∙◌, sym, ap, subst, refl, ℕ, suc, ◌+◌, List, [], ◌∷◌, ◌++◌, length, map, append_assoc, Option, Some, false, arith}
use Rattle.std.specs.Prelude.{AllPairs, slice_get, option_map, ◌≢◌}
use Rattle.std.specs.List.{range_with_len}
use Rattle.std.proofs.lemmas.List.{map-append}
use Rattle.ix_tree.specs.TypedTrees.{TypedInstrTree, TypedBlockTree, TypedSectionTree, TypedSectionKindTree, tk_states, tk_instructions, tk_always, TypedTextTree, erased_section, erased_text}
use Rattle.ix_typing.specs.declared.role.Named.{Named}
use Rattle.ix_typing.specs.declared.state.Front.{Front}
use Rattle.ix_typing.specs.declared.state.State.{State}
use Rattle.ix_typing.specs.Names.{is_listed}
use Rattle.ix_typing.specs.Texts.{global_state, globals, no_front}
use Rattle.ix_typed.specs.Texts.{AreInstrs, AreBlocks, IsKind, AreSections, IsText}
use Rattle.ix_typed.specs.Laws.{TextLaw}
use Rattle.ix_extension.specs.Extensions.{BehaviourTree, InstructionTree, ExtensionTree, instrs_in, blocks_in, all_instrs, all_blocks, instruction_of, block_of, extension_of}
use Rattle.ix_behaviour.specs.Behaviours.{behaviour_of}
use Rattle.ix_standing.specs.Standing.{instruction_number, block_number, behaviours_of, name_in, name_at}
use Rattle.ix_modules.specs.Modules.{ApartLaw}
use Rattle.ix_modules.proofs.Names.{Name, Each, each_join, each_weaker, AreApart, AreAway, away_by, away_turned, apart_join, apart_pairs, not_listed}

abbrev instr_names : List TypedInstrTree → List Name
instr_names xs = map (λ (i : TypedInstrTree). i.name) xs

abbrev block_names : List TypedBlockTree → List Name
block_names xs = map (λ (b : TypedBlockTree). b.name) xs

-- ---- the names of one section
-- the names differ, none of them was seen before, and all are seen behind them
record AreNew (seen ns after : List Name) : Type 0 where
  pub apart : AreApart ns
  pub unseen : Each (λ n. is_listed seen n ≡ false) ns
  pub after_is : after ≡ seen ++ ns

more_new : (seen ns after : List Name) (n : Name) → is_listed seen n ≡ false → AreNew (seen ++ n ∷ []) ns after → AreNew seen (n ∷ ns) after
more_new seen ns after n h r =
    let each = each_weaker (λ m. is_listed (seen ++ n ∷ []) m ≡ false) (λ m. (is_listed seen m ≡ false) × Each (λ k. k ≢ m) (n ∷ [])) (λ m e. not_listed seen (n ∷ []) m e) ns r.unseen in
    record {
      apart = (each_weaker (λ m. (is_listed seen m ≡ false) × Each (λ k. k ≢ m) (n ∷ [])) (λ m. n ≢ m) (λ m e. e.1.0) ns each, r.apart);
      unseen = (h, each_weaker (λ m. (is_listed seen m ≡ false) × Each (λ k. k ≢ m) (n ∷ [])) (λ m. is_listed seen m ≡ false) (λ m e. e.0) ns each);
      after_is = r.after_is ∙ append_assoc seen (n ∷ []) ns;
    }

none_new : (seen after : List Name) → after ≡ seen → AreNew seen [] after
none_new seen after e = record { apart = tt; unseen = tt; after_is = e ∙ sym (append_none seen) } where
  append_none : (xs : List Name) → xs ++ [] ≡ xs
  append_none [] = refl
  append_none (x ∷ xs) = ap (λ (ys : List Name). x ∷ ys) (append_none xs)

instrs_new : (names : List Named) (xs : List TypedInstrTree) (seen after : List Name) → AreInstrs names xs seen after → AreNew seen (instr_names xs) after
instrs_new names [] seen after h = none_new seen after h
instrs_new names (x ∷ xs) seen after h = more_new seen (instr_names xs) after x.name h.0.0 (instrs_new names xs (seen ++ x.name ∷ []) after h.1)

blocks_new : (names : List Named) (xs : List TypedBlockTree) (seen after : List Name) → AreBlocks names xs seen after → AreNew seen (block_names xs) after
blocks_new names [] seen after h = none_new seen after h
blocks_new names (x ∷ xs) seen after h = more_new seen (block_names xs) after x.name h.0.0 (blocks_new names xs (seen ++ x.name ∷ []) after h.1)

-- ---- the names of all sections
record AreFresh (seen instrs blocks : List Name) : Type 0 where
  pub instrs_apart : AreApart instrs
  pub blocks_apart : AreApart blocks
  pub across : AreAway instrs blocks
  pub new_instrs : Each (λ n. is_listed seen n ≡ false) instrs
  pub new_blocks : Each (λ n. is_listed seen n ≡ false) blocks

-- what is new behind a section is new before it, and differs from its names
record IsBehind (seen ns rest : List Name) : Type 0 where
  pub unseen : Each (λ n. is_listed seen n ≡ false) rest
  pub differ : Each (λ n. Each (λ m. m ≢ n) ns) rest

behind : (seen ns rest : List Name) → Each (λ n. is_listed (seen ++ ns) n ≡ false) rest → IsBehind seen ns rest
behind seen ns rest h =
    let both = each_weaker (λ n. is_listed (seen ++ ns) n ≡ false) (λ n. (is_listed seen n ≡ false) × Each (λ m. m ≢ n) ns) (λ n e. not_listed seen ns n e) rest h in
    record {
      unseen = each_weaker (λ n. (is_listed seen n ≡ false) × Each (λ m. m ≢ n) ns) (λ n. is_listed seen n ≡ false) (λ n e. e.0) rest both;
      differ = each_weaker (λ n. (is_listed seen n ≡ false) × Each (λ m. m ≢ n) ns) (λ n. Each (λ m. m ≢ n) ns) (λ n e. e.1) rest both;
    }

instrs_front : (seen ns after is bs : List Name) → AreNew seen ns after → AreFresh after is bs → AreFresh seen (ns ++ is) bs
instrs_front seen ns after is bs new rest =
    let i = behind seen ns is (subst (λ l. Each (λ n. is_listed l n ≡ false) is) new.after_is rest.new_instrs) in
    let b = behind seen ns bs (subst (λ l. Each (λ n. is_listed l n ≡ false) bs) new.after_is rest.new_blocks) in
    record {
      instrs_apart = apart_join ns is new.apart rest.instrs_apart (away_by ns is i.differ);
      blocks_apart = rest.blocks_apart;
      across = each_join (λ m. Each (λ n. m ≢ n) bs) ns is (away_by ns bs b.differ) rest.across;
      new_instrs = each_join (λ n. is_listed seen n ≡ false) ns is new.unseen i.unseen;
      new_blocks = b.unseen;
    }

away_join : (is ns bs : List Name) → AreAway is ns → AreAway is bs → AreAway is (ns ++ bs)
away_join [] ns bs a b = tt
away_join (i ∷ is) ns bs a b = (each_join (λ n. i ≢ n) ns bs a.0 b.0, away_join is ns bs a.1 b.1)

blocks_front : (seen ns after is bs : List Name) → AreNew seen ns after → AreFresh after is bs → AreFresh seen is (ns ++ bs)
blocks_front seen ns after is bs new rest =
    let i = behind seen ns is (subst (λ l. Each (λ n. is_listed l n ≡ false) is) new.after_is rest.new_instrs) in
    let b = behind seen ns bs (subst (λ l. Each (λ n. is_listed l n ≡ false) bs) new.after_is rest.new_blocks) in
    record {
      instrs_apart = rest.instrs_apart;
      blocks_apart = apart_join ns bs new.apart rest.blocks_apart (away_by ns bs b.differ);
      across = away_join is ns bs (away_turned ns is i.differ) rest.across;
      new_instrs = i.unseen;
      new_blocks = each_join (λ n. is_listed seen n ≡ false) ns bs new.unseen b.unseen;
    }

kind_front : (st : State) (k : TypedSectionKindTree) (f mid : Front) (is : List TypedInstrTree) (bs : List TypedBlockTree) → IsKind st k f mid → AreFresh mid.behaviours (instr_names is) (block_names bs)
    → AreFresh f.behaviours (instr_names (instrs_in k ++ is)) (block_names (blocks_in k ++ bs))
kind_front st (tk_states xs) f mid is bs h rest = subst (λ l. AreFresh l (instr_names is) (block_names bs)) (ap (λ (g : Front). g.behaviours) h.2) rest
kind_front st (tk_instructions xs) f mid is bs h rest =
    let p = h.1 in
    let seen = p.0 in
    let new = instrs_new st.names xs f.behaviours seen p.1 in
    let there = subst (λ l. AreFresh l (instr_names is) (block_names bs)) (ap (λ (g : Front). g.behaviours) p.2) rest in
    subst (λ l. AreFresh f.behaviours l (block_names bs)) (sym (map-append (λ (i : TypedInstrTree). i.name) xs is)) (instrs_front f.behaviours (instr_names xs) seen (instr_names is) (block_names bs) new there)
kind_front st (tk_always xs) f mid is bs h rest =
    let p = h.1 in
    let seen = p.0 in
    let new = blocks_new st.names xs f.behaviours seen p.1 in
    let there = subst (λ l. AreFresh l (instr_names is) (block_names bs)) (ap (λ (g : Front). g.behaviours) p.2) rest in
    subst (λ l. AreFresh f.behaviours (instr_names is) l) (sym (map-append (λ (b : TypedBlockTree). b.name) xs bs)) (blocks_front f.behaviours (block_names xs) seen (instr_names is) (block_names bs) new there)

sections_fresh : (st : State) (ss : List TypedSectionTree) (f : Front) → AreSections st ss f → AreFresh f.behaviours (instr_names (all_instrs ss)) (block_names (all_blocks ss))
sections_fresh st [] f h = record { instrs_apart = tt; blocks_apart = tt; across = tt; new_instrs = tt; new_blocks = tt }
sections_fresh st (s ∷ ss) f h = kind_front st s.kind f h.0 (all_instrs ss) (all_blocks ss) h.1 (sections_fresh st ss h.0 h.2)

-- ---- the names of an extension
abbrev tree_names : List InstructionTree → List Name
tree_names xs = map (λ (i : InstructionTree). i.behaviour.name) xs

abbrev tree_blocks : List BehaviourTree → List Name
tree_blocks xs = map (λ (b : BehaviourTree). b.name) xs

map_map : {A B C : Type 0} (g : B → C) (f : A → B) (xs : List A) → map g (map f xs) ≡ map (λ x. g (f x)) xs
map_map g f [] = refl
map_map {C = C} g f (x ∷ xs) = ap (λ (ys : List C). g (f x) ∷ ys) (map_map g f xs)

names_apart : (t : TypedTextTree) → IsText t → AreApart (tree_names (extension_of t).instructions ++ tree_blocks (extension_of t).blocks)
names_apart t h =
    let fresh = sections_fresh (global_state (globals [] (map erased_section t.sections))) t.sections no_front h in
    let i = map_map (λ (i : InstructionTree). i.behaviour.name) instruction_of (all_instrs t.sections) in
    let b = map_map (λ (b : BehaviourTree). b.name) block_of (all_blocks t.sections) in
    subst (λ l. AreApart (l ++ tree_blocks (extension_of t).blocks)) (sym i)
    (subst (λ l. AreApart (instr_names (all_instrs t.sections) ++ l)) (sym b)
    (apart_join (instr_names (all_instrs t.sections)) (block_names (all_blocks t.sections)) fresh.instrs_apart fresh.blocks_apart fresh.across))

-- the names by the numbers of behaviours
by_numbers : {A : Type 0} (name : A → Name) (g : ℕ → Name) (xs : List A) (from : ℕ) → ((k : ℕ) (x : A) → slice_get xs k ≡ Some x → g (from + k) ≡ name x) → map g (range_with_len from (length xs)) ≡ map name xs
by_numbers name g [] from h = refl
by_numbers name g (x ∷ xs) from h =
    let first : g from ≡ name x = subst (λ k. g k ≡ name x) (plus_none from) (h 0 x refl) in
    let rest = by_numbers name g xs (from + 1) (λ k y e. subst (λ j. g j ≡ name y) (plus_one from k) (h (suc k) y e)) in
    ap (λ (n : Name). n ∷ map g (range_with_len (from + 1) (length xs))) first ∙ ap (λ (ns : List Name). name x ∷ ns) rest
  where
    plus_none : (n : ℕ) → n + 0 ≡ n
    plus_none n = omega arith

    plus_one : (n k : ℕ) → n + suc k ≡ n + 1 + k
    plus_one n k = omega arith

no_more : (k : ℕ) → 0 + k ≡ k
no_more k = omega arith

instruction_name : (x : ExtensionTree) (k : ℕ) (i : InstructionTree) → slice_get x.instructions k ≡ Some i → name_at x (instruction_number (0 + k)) ≡ i.behaviour.name
instruction_name x k i e =
    subst (λ n. name_at x (instruction_number n) ≡ i.behaviour.name) (sym (no_more k)) (ap (λ (o : Option InstructionTree). name_in (option_map behaviour_of o)) e)

block_name : (x : ExtensionTree) (k : ℕ) (b : BehaviourTree) → slice_get x.blocks k ≡ Some b → name_at x (block_number (0 + k)) ≡ b.name
block_name x k b e = subst (λ n. name_at x (block_number n) ≡ b.name) (sym (no_more k)) (ap (λ (o : Option BehaviourTree). name_in o) e)

pub names_are : (x : ExtensionTree) → map (name_at x) (behaviours_of x) ≡ tree_names x.instructions ++ tree_blocks x.blocks
names_are x =
    let is = map instruction_number (range_with_len 0 (length x.instructions)) in
    let bs = map block_number (range_with_len 0 (length x.blocks)) in
    let first = map_map (name_at x) instruction_number (range_with_len 0 (length x.instructions)) ∙ by_numbers (λ (i : InstructionTree). i.behaviour.name) (λ k. name_at x (instruction_number k)) x.instructions 0 (instruction_name x) in
    let last = map_map (name_at x) block_number (range_with_len 0 (length x.blocks)) ∙ by_numbers (λ (b : BehaviourTree). b.name) (λ k. name_at x (block_number k)) x.blocks 0 (block_name x) in
    map-append (name_at x) is bs ∙ ap (λ (l : List Name). l ++ map (name_at x) bs) first ∙ ap (λ (l : List Name). tree_names x.instructions ++ l) last

pub behaviours_apart : TextLaw → ApartLaw
behaviours_apart law t x h =
    let typed : IsText t = ((law (erased_text t) t).0 h.typed).typed in
    let there : AreApart (map (name_at (extension_of t)) (behaviours_of (extension_of t))) = subst AreApart (sym (names_are (extension_of t))) (names_apart t typed) in
    subst (λ (y : ExtensionTree). AllPairs (λ m n. m ≢ n) (map (name_at y) (behaviours_of y))) (sym h.parts) (apart_pairs _ there)
