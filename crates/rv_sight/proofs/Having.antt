-- An instruction whose `spawn` body writes a register has a unit of the design, and touches the register; one with a unit writes such a register.
use Rattle.std.proofs.Common.{◌≡◌, refl, sym, ap, ◌∙◌, subst, ⊎_elim, ℕ, zero, suc, ◌+◌, ◌<◌, arith, List, [], ◌∷◌, length, take, get_or, Option, Some, None, is_some, Bool, true, false, Contains}
use Rattle.std.specs.Prelude.{slice_index_or, ◌||◌}
use Rattle.std.specs.List.{list_any}
use Rattle.std.proofs.lemmas.Bool.{or_left, or_right, or_cases, and_parts, true≢false, false≢true}
use Rattle.ix_extension.specs.Extensions.{ExtensionTree, view_extension}
use Rattle.ix_behaviour.specs.declared.which.Which.TheVariants as W
use Rattle.ix_behaviour.specs.Laws.{FewLaw}
use Rattle.ix_depends.specs.Laws.{TimesLaw}
use Rattle.ix_graph.specs.declared.kind.Kind.{Kind}
use Rattle.ix_graph.specs.declared.kind.Kind.TheVariants as k
use Rattle.ix_graph.specs.declared.graph.Mode.{Mode}
use Rattle.ix_graph.specs.declared.graph.Mode.TheVariants.{InPipeline, Tight, Decoupled, Always}
use Rattle.ix_graph.specs.declared.graph.Op.{Op}
use Rattle.ix_plan.specs.declared.design.Plan.{Plan}
use Rattle.ix_plan.specs.declared.design.Design.{Design}
use Rattle.ix_plan.specs.declared.design.Target.{Target}
use Rattle.ix_plan.specs.declared.design.Target.TheVariants.{X, Custom}
use Rattle.ix_sheet.specs.Behaviours.{IsSpawning, IsModeOf}
use Rattle.ix_standing.specs.Standing.{Stands}
use Rattle.rv_isa.specs.Fields.{rd_of}
use Rattle.rv_unit.specs.Numbering.{is_decoupled, lasts_of, unit_after, unit_of}
use Rattle.rv_unit.specs.UnitLaws.{NumberingLaw, UnitsLaw}
use Rattle.rv_asks.specs.declared.asks.Act.{Act}
use Rattle.rv_asks.specs.declared.asks.Asks.{Asks}
use Rattle.rv_asks.specs.Acts as acts
use Rattle.rv_asks.specs.Asks.{flags, some_so, block_acts, asks_in}
use Rattle.rv_seq.specs.declared.decoded.Decoded.{Decoded}
use Rattle.rv_seq.specs.declared.decoded.Decoded.TheVariants as D
use Rattle.rv_seq.specs.Decoding.{decoded_in}
use Rattle.rv_lawful.specs.Sight.{SpawnsNothing}
use Rattle.rv_lawful.specs.Outstanding.{is_register, has_target, touches}
use Rattle.rv_sight.specs.InUnits.{AreInUnits}
use Rattle.rv_sight.proofs.Plans.{plan_of, own_within}
use Rattle.rv_sight.proofs.Asking.{asks_of, own_asks}
use Rattle.rv_sight.proofs.Units.{none_quiet, base_quiet}
use Rattle.rv_sight.proofs.Targets.{some_target, custom_within}
use Rattle.rv_sight.proofs.Lasting.{spawning_decoupled, units_can_be}

-- ---- flags
set_flag : (xs : List Bool) (n : ℕ) → slice_index_or xs n false ≡ true → Contains xs true
set_flag [] n h = cc
set_flag (b ∷ xs) zero h = (0, omega arith, h)
set_flag (b ∷ xs) (suc n) h = let c = set_flag xs n h in let l = c.1 in (suc c.0, omega (arith, l), c.2)

flag_found : (f : ℕ → Bool) (n r : ℕ) → get_or (flags f n) r false ≡ true → f r ≡ true
flag_found f zero r h = cc
flag_found f (suc n) zero h = h
flag_found f (suc n) (suc r) h = flag_found (λ q. f (suc q)) n r h

flags_follow : (f g : ℕ → Bool) → ((q : ℕ) → f q ≡ true → g q ≡ true) → (n r : ℕ) → get_or (flags f n) r false ≡ true → get_or (flags g n) r false ≡ true
flags_follow f g follows zero r h = cc
flags_follow f g follows (suc n) zero h = follows 0 h
flags_follow f g follows (suc n) (suc r) h = flags_follow (λ q. f (suc q)) (λ q. g (suc q)) (λ q e. follows (suc q) e) n r h

-- ---- acts
any_follows : (f g : Act → Bool) → ((a : Act) → f a ≡ true → g a ≡ true) → (xs : List Act) → list_any f xs ≡ true → list_any g xs ≡ true
any_follows f g follows [] h = cc
any_follows f g follows (a ∷ xs) h =
    ⊎_elim (λ (e : f a ≡ true). or_left (g a) (list_any g xs) (follows a e)) (λ (e : list_any f xs ≡ true). or_right (g a) (list_any g xs) (any_follows f g follows xs e)) (or_cases (f a) (list_any f xs) h)

-- where a question that asks for a spawned operation is answered yes, there is one
module _ (p : Plan) (f : Act → Bool) (asks : (a : Act) → f a ≡ true → a.spawned ≡ true) where
  some_from : (n : ℕ) (ops : List Op) → list_any f (acts.acts_from p n ops) ≡ true → IsSpawning p.graph
  some_from n [] h = cc
  some_from n (op ∷ ops) h =
      ⊎_elim (λ (e : f (acts.act_at p n op) ≡ true). set_flag p.graph.spawned n (asks (acts.act_at p n op) e)) (λ (e : list_any f (acts.acts_from p (n + 1) ops) ≡ true). some_from (n + 1) ops e)
      (or_cases (f (acts.act_at p n op)) (list_any f (acts.acts_from p (n + 1) ops)) h)

  some_spawned : list_any f (acts.acts_of p) ≡ true → IsSpawning p.graph
  some_spawned h = some_from 0 p.graph.ops h

write_touches : (r : ℕ) (kind : Kind) → acts.is_custom_write r kind ≡ true → acts.is_custom r kind ≡ true
write_touches r (k.WrCustReg number) h = h
write_touches r _ h = cc

spawn_touches : (r : ℕ) (a : Act) → acts.spawns_custom r a ≡ true → acts.touches r a ≡ true
spawn_touches r a h = write_touches r a.kind (and_parts a.spawned (acts.is_custom_write r a.kind) h).1

-- ---- targets
named : (b : Bool) (n r : ℕ) → is_register (some_so b n) r ≡ true → b ≡ true
named true n r h = refl
named false n r h = cc

no_target : (a : Asks) → SpawnsNothing a → (t : Target) → has_target a t ≡ true → ⊥
no_target a quiet (X r) h = false≢true (sym (ap (λ (o : Option ℕ). is_register o r) quiet.x) ∙ h)
no_target a quiet (Custom c) h = false≢true (sym (quiet.customs c) ∙ h)

no_unit : (a : Asks) → SpawnsNothing a → (u : ℕ) → a.unit ≡ Some u → ⊥
no_unit a quiet u h = true≢false (sym (ap is_some h) ∙ ap is_some quiet.unit)

unit_there : (b : Bool) (n : ℕ) → b ≡ true → is_some (some_so b n) ≡ true
unit_there true n e = refl
unit_there false n e = cc

module _ (d : Design) (stands : Stands d) where
  abbrev x : ExtensionTree
  x = view_extension d.extension

  -- ---- an instruction with a plan
  target_spawns : (word : ℕ) (unit : Option ℕ) (p : Plan) (t : Target) → has_target (asks_of d word unit p) t ≡ true → IsSpawning p.graph
  target_spawns word unit p (X r) h =
      some_spawned p acts.spawns_x (λ a e. (and_parts a.spawned (acts.is_destination a.kind) e).0) (named (list_any acts.spawns_x (acts.acts_of p)) (rd_of word) r h)
  target_spawns word unit p (Custom c) h =
      some_spawned p (acts.spawns_custom c) (λ a e. (and_parts a.spawned (acts.is_custom_write c a.kind) e).0) (flag_found (λ q. list_any (acts.spawns_custom q) (acts.acts_of p)) 16 c h)

  target_touched : (word : ℕ) (unit : Option ℕ) (p : Plan) (t : Target) → has_target (asks_of d word unit p) t ≡ true → touches (asks_of d word unit p) t ≡ true
  target_touched word unit p (X r) h = or_right _ (is_register (asks_of d word unit p).spawned r) h
  target_touched word unit p (Custom c) h =
      flags_follow (λ q. list_any (acts.spawns_custom q) (acts.acts_of p)) (λ q. list_any (acts.touches q) (acts.acts_of p) || list_any (acts.touches q) (block_acts d))
      (λ q e. or_left (list_any (acts.touches q) (acts.acts_of p)) (list_any (acts.touches q) (block_acts d)) (any_follows (acts.spawns_custom q) (acts.touches q) (spawn_touches q) (acts.acts_of p) e))
      16 c h

  -- ---- any word
  spawning_at : (word : ℕ) (o : Option Decoded) → decoded_in x word ≡ o → (t : Target) → has_target (asks_in d word o) t ≡ true → is_some (asks_in d word o).unit ≡ true
  spawning_at word None is t h = absurd (no_target (asks_in d word None) (none_quiet d word) t h)
  spawning_at word (Some (D.Base b)) is t h = absurd (no_target (asks_in d word (Some (D.Base b))) (base_quiet d word b) t h)
  spawning_at word (Some (D.Own n)) is t h =
      let r = plan_of d stands n (own_within x word n is) in
      let same = own_asks d word n r.plan r.there in
      let spawning = target_spawns word (unit_of d.plans n) r.plan t (subst (λ (z : Asks). has_target z t ≡ true) same h) in
      let decoupled = spawning_decoupled r.plan.graph d.sheet r.plan.mode r.planned.mode spawning in
      let count : ℕ = length (lasts_of (take n d.plans)) in
      let unit : unit_of d.plans n ≡ unit_after count (Some r.plan) = ap (unit_after count) r.there in
      subst (λ (z : Asks). is_some z.unit ≡ true) (sym same) (subst (λ (z : Option ℕ). is_some z ≡ true) (sym unit) (unit_there (is_decoupled r.plan.mode) count decoupled))

  touching_at : (word : ℕ) (o : Option Decoded) → decoded_in x word ≡ o → (t : Target) → has_target (asks_in d word o) t ≡ true → touches (asks_in d word o) t ≡ true
  touching_at word None is t h = absurd (no_target (asks_in d word None) (none_quiet d word) t h)
  touching_at word (Some (D.Base b)) is t h = absurd (no_target (asks_in d word (Some (D.Base b))) (base_quiet d word b) t h)
  touching_at word (Some (D.Own n)) is t h =
      let r = plan_of d stands n (own_within x word n is) in
      let same = own_asks d word n r.plan r.there in
      subst (λ (z : Asks). touches z t ≡ true) (sym same) (target_touched word (unit_of d.plans n) r.plan t (subst (λ (z : Asks). has_target z t ≡ true) same h))

  numbering_at : NumberingLaw → (word : ℕ) (o : Option Decoded) → decoded_in x word ≡ o → (u : ℕ) → (asks_in d word o).unit ≡ Some u → u < length (lasts_of d.plans)
  numbering_at law word None is u h = absurd (no_unit (asks_in d word None) (none_quiet d word) u h)
  numbering_at law word (Some (D.Base b)) is u h = absurd (no_unit (asks_in d word (Some (D.Base b))) (base_quiet d word b) u h)
  numbering_at law word (Some (D.Own n)) is u h =
      let r = plan_of d stands n (own_within x word n is) in
      let same = own_asks d word n r.plan r.there in
      (law d.plans n u r.plan (subst (λ (z : Asks). z.unit ≡ Some u) same h) r.there).0

  -- a decoupled instruction has a write of a spawn body
  unit_spawns : (count u : ℕ) (p : Plan) → IsModeOf p.graph d.sheet false p.mode → unit_after count (Some p) ≡ Some u → IsSpawning p.graph
  unit_spawns count u p mode h = by p.mode mode h
    where
      by : (m : Mode) → IsModeOf p.graph d.sheet false m → some_so (is_decoupled m) count ≡ Some u → IsSpawning p.graph
      by Decoupled mode h = mode.1
      by InPipeline mode h = cc
      by Tight mode h = cc
      by Always mode h = cc

  having_at : FewLaw → TimesLaw → (word : ℕ) (o : Option Decoded) → decoded_in x word ≡ o → (u : ℕ) → (asks_in d word o).unit ≡ Some u → (t : Target) × (has_target (asks_in d word o) t ≡ true)
  having_at few times word None is u h = absurd (no_unit (asks_in d word None) (none_quiet d word) u h)
  having_at few times word (Some (D.Base b)) is u h = absurd (no_unit (asks_in d word (Some (D.Base b))) (base_quiet d word b) u h)
  having_at few times word (Some (D.Own n)) is u h =
      let l = own_within x word n is in
      let r = plan_of d stands n l in
      let same = own_asks d word n r.plan r.there in
      let count : ℕ = length (lasts_of (take n d.plans)) in
      let unit : unit_of d.plans n ≡ unit_after count (Some r.plan) = ap (unit_after count) r.there in
      let spawning = unit_spawns count u r.plan r.planned.mode (sym unit ∙ subst (λ (z : Asks). z.unit ≡ Some u) same h) in
      let registers = (few stands.well_formed.0 x stands.well_formed.1).registers in
      let timely = times stands.well_formed.0 x d.sheet (W.Instruction n) r.plan stands.well_formed.1 l stands.sheet r.planned in
      let found = some_target x d.sheet (W.Instruction n) r.plan r.planned timely registers spawning d word (unit_of d.plans n) in
      (found.0, subst (λ (z : Asks). has_target z found.0 ≡ true) (sym same) found.1)

  few_at : (word : ℕ) (o : Option Decoded) → decoded_in x word ≡ o → (c : ℕ) → has_target (asks_in d word o) (Custom c) ≡ true → c < length x.registers
  few_at word None is c h = absurd (no_target (asks_in d word None) (none_quiet d word) (Custom c) h)
  few_at word (Some (D.Base b)) is c h = absurd (no_target (asks_in d word (Some (D.Base b))) (base_quiet d word b) (Custom c) h)
  few_at word (Some (D.Own n)) is c h =
      let r = plan_of d stands n (own_within x word n is) in
      let same = own_asks d word n r.plan r.there in
      custom_within x d.sheet (W.Instruction n) r.plan r.planned c
      (flag_found (λ q. list_any (acts.spawns_custom q) (acts.acts_of r.plan)) 16 c (subst (λ (z : Asks). has_target z (Custom c) ≡ true) same h))

  pub in_units : FewLaw → TimesLaw → UnitsLaw → NumberingLaw → AreInUnits d
  in_units few times units numbers =
      record {
        units = units_can_be d stands few times units;
        spawning = λ word t h. spawning_at word (decoded_in x word) refl t h;
        touching = λ word t h. touching_at word (decoded_in x word) refl t h;
        numbering = λ word u h. numbering_at numbers word (decoded_in x word) refl u h;
        having = λ word u h. having_at few times word (decoded_in x word) refl u h;
        few = λ word c h. few_at word (decoded_in x word) refl c h;
      }
