-- In a text that denotes nets no name stands twice.
use Rattle.std.proofs.Common.{◌≡◌, ◌≢◌, ℕ, suc, List, [], ◌∷◌, ◌++◌, map, refl, ap, sym, ◌∙◌, subst, arith, append_assoc, inl, inr}
use Rattle.std.specs.Prelude.{AllPairs, All, Contains, Result, Ok, Err, IfOk, IfErr}
use Rattle.std.specs.List.{AllZip, AllByRecursion}
use Rattle.std.proofs.lemmas.List.{map-append, append-nil}
use Rattle.std.proofs.lemmas.List.Elements.{All-head, All-tail, All-from_recursion}
use Rattle.ix_net.specs.declared.netlist.Net.{Net}
use Rattle.ix_net.specs.declared.netlist.Port.{Port}
use Rattle.ix_net.specs.declared.netlist.Cell.{Cell}
use Rattle.ix_net.specs.declared.netlist.Bank.{Bank}
use Rattle.ix_net.specs.Signals.{signals, cell_port, bank_port}
use Rattle.ix_net.specs.Valid.{names}
use Rattle.ix_verilog.specs.declared.source.Source.{Source}
use Rattle.ix_verilog.specs.declared.source.Assign.{Assign}
use Rattle.ix_verilog.specs.declared.source.Update.{Update}
use Rattle.ix_verilog.specs.Words.{Word, words_of}
use Rattle.ix_verilog.specs.Subset.{IsNetOf, Denotes, IsWritten}
use Rattle.ix_verilog.proofs.OneNet.{denoted_stays}
use Rattle.ix_verilog.proofs.OneReading.{written_once}
use Rattle.ix_verilog.proofs.Pairs.{head_case, pairs_left, pairs_right, pairs_tail, pairs_cross}
use Rattle.ix_vnets.specs.Names.{AreOnce, AllOnce, FirstTwice, IsFirstTwice, said, said_in, targets, updated}
use Rattle.ix_vnets.proofs.Seen.{once_both}
use Rattle.ix_vread.specs.declared.error.VErr.{VErr}
use Rattle.ix_vread.specs.declared.error.VErr.TheVariants.{At, Width, Loop, Twice, Memory}
use Rattle.ix_vread.specs.Told.{IsTold}
use Rattle.ix_vread.specs.Loops.{AreDrivenOnce, IsLoopless, FirstLoop}
use Rattle.ix_verilog.specs.Laws.{OneDenotation}
use Rattle.ix_vread.specs.Laws.{DenotedIsNotRefused, IsRead}
use Rattle.ix_vnets.specs.Finished.{IsFinished}
use Rattle.ix_vnets.specs.Nets.{IsCellOf, IsMadeOf}
use Rattle.ix_vnets.specs.Laws.{ModulesAreFinished, MadeIsNet, NetIsMade, OneIsMade, MadeFits}

-- ---- lists without a doubled name have no first one
once_none : (xs : List Word) (n : Word) → AreOnce xs → IsFirstTwice xs n → ⊥
once_none xs n h t =
    let k : AreOnce (t.front ++ n ∷ t.rest) = subst AreOnce t.are h in
    pairs_cross (λ x y. x ≢ y) t.front (n ∷ t.rest) k n n t.again (0, omega arith, refl) refl

once_all : (xss : List (List Word)) (n : Word) → AllOnce xss → FirstTwice xss n → ⊥
once_all [] n h t = t
once_all (xs ∷ xss) n h (inl t) = once_none xs n h.0 t
once_all (xs ∷ xss) n h (inr t) = once_all xss n h.1 t.1

-- ---- one module
map_map : {X Y Z : Type 0} (f : X → Y) (g : Y → Z) (xs : List X) → map g (map f xs) ≡ map (λ x. g (f x)) xs
map_map f g [] = refl
map_map f g (x ∷ xs) = ap (λ z. g (f x) ∷ z) (map_map f g xs)

cells_once : (net : Net) → AllPairs (λ x y. x ≢ y) (net.name ∷ names (signals net)) → AreOnce (map (λ (c : Cell). c.target) net.cells)
cells_once net h =
    let f : Port → Word = λ p. p.name in
    let a : AreOnce (names (signals net)) = pairs_tail (λ x y. x ≢ y) net.name (names (signals net)) h in
    let b : AreOnce (names (net.inputs ++ map cell_port net.cells) ++ names (map bank_port net.banks)) = subst AreOnce (map-append f (net.inputs ++ map cell_port net.cells) (map bank_port net.banks)) a in
    let d : AreOnce (names net.inputs ++ names (map cell_port net.cells)) = subst AreOnce (map-append f net.inputs (map cell_port net.cells)) (pairs_left (λ x y. x ≢ y) (names (net.inputs ++ map cell_port net.cells)) (names (map bank_port net.banks)) b) in
    subst AreOnce (map_map cell_port f net.cells) (pairs_right (λ x y. x ≢ y) (names net.inputs) (names (map cell_port net.cells)) d)

banks_once : (net : Net) → AllPairs (λ x y. x ≢ y) (net.name ∷ names (signals net)) → AreOnce (map (λ (b : Bank). b.target) net.banks)
banks_once net h =
    let f : Port → Word = λ p. p.name in
    let a : AreOnce (names (signals net)) = pairs_tail (λ x y. x ≢ y) net.name (names (signals net)) h in
    let b : AreOnce (names (net.inputs ++ map cell_port net.cells) ++ names (map bank_port net.banks)) = subst AreOnce (map-append f (net.inputs ++ map cell_port net.cells) (map bank_port net.banks)) a in
    subst AreOnce (map_map bank_port f net.banks) (pairs_right (λ x y. x ≢ y) (names (net.inputs ++ map cell_port net.cells)) (names (map bank_port net.banks)) b)

abbrev to_update : Bank → Update
to_update b = record { enable = b.enable; target = b.target; source = b.source }

module_once : (s : Source) (net : Net) → IsNetOf s net → AllOnce (said_in s)
module_once s net n =
    let b : map (λ (x : Bank). x.target) net.banks ≡ updated s.updates = sym (map_map to_update (λ (u : Update). u.target) net.banks) ∙ ap updated n.updates in
    (n.once, (subst AreOnce n.targets (cells_once net n.valid.distinct), (subst AreOnce b (banks_once net n.valid.distinct), tt)))

-- ---- all modules
pub names_zip : (ss : List Source) (ns : List Net) → AllZip IsNetOf ss ns → map (λ (n : Net). n.name) ns ≡ map (λ (s : Source). s.name) ss
names_zip [] [] h = refl
names_zip [] (n ∷ ns) h = absurd h
names_zip (s ∷ ss) [] h = absurd h
names_zip (s ∷ ss) (n ∷ ns) h = ap (λ z. z ∷ map (λ (x : Net). x.name) ns) h.0.named ∙ ap (λ z. s.name ∷ z) (names_zip ss ns h.1)

modules_once : (before : List Word) (ss : List Source) (ns : List Net) → AllZip IsNetOf ss ns → AreOnce (before ++ map (λ (s : Source). s.name) ss) → AllOnce (said before ss)
modules_once before [] ns h a = tt
modules_once before (s ∷ ss) [] h a = absurd h
modules_once before (s ∷ ss) (n ∷ ns) h a =
    let e : before ++ s.name ∷ map (λ (x : Source). x.name) ss ≡ (before ++ s.name ∷ []) ++ map (λ (x : Source). x.name) ss = sym (append_assoc before (s.name ∷ []) (map (λ (x : Source). x.name) ss)) in
    let b : AreOnce ((before ++ s.name ∷ []) ++ map (λ (x : Source). x.name) ss) = subst AreOnce e a in (
      pairs_left (λ x y. x ≢ y) (before ++ s.name ∷ []) (map (λ (x : Source). x.name) ss) b,
      once_both (said_in s) (said (before ++ s.name ∷ []) ss) (module_once s n h.0) (modules_once (before ++ s.name ∷ []) ss ns h.1 b),
    )

denoted_once : (text : List ℕ) (ns : List Net) (d : Denotes text ns) → AllOnce (said [] d.modules)
denoted_once text ns d = modules_once [] d.modules ns d.nets_of (subst AreOnce (names_zip d.modules ns d.nets_of) d.apart)

made_all : NetIsMade → (ss : List Source) (ns : List Net) → AllZip IsNetOf ss ns → AllZip IsMadeOf ss ns
made_all made [] [] h = tt
made_all made [] (n ∷ ns) h = absurd h
made_all made (s ∷ ss) [] h = absurd h
made_all made (s ∷ ss) (n ∷ ns) h = (made s n h.0, made_all made ss ns h.1)

loopless_all : (ss : List Source) (ns : List Net) → AllZip IsNetOf ss ns → AllByRecursion IsLoopless ns
loopless_all [] [] h = tt
loopless_all [] (n ∷ ns) h = absurd h
loopless_all (s ∷ ss) [] h = absurd h
loopless_all (s ∷ ss) (n ∷ ns) h = (h.0.valid.loopless, loopless_all ss ns h.1)

one_all : OneIsMade → (ss : List Source) (ns ms : List Net) → All IsFinished ss → ((s : Source) → Contains ss s → AllOnce (said_in s)) → AllZip IsMadeOf ss ns → AllZip IsMadeOf ss ms → ns ≡ ms
one_all one [] [] [] f o h k = refl
one_all one [] [] (m ∷ ms) f o h k = absurd k
one_all one [] (n ∷ ns) ms f o h k = absurd h
one_all one (s ∷ ss) [] ms f o h k = absurd h
one_all one (s ∷ ss) (n ∷ ns) [] f o h k = absurd k
one_all one (s ∷ ss) (n ∷ ns) (m ∷ ms) f o h k =
    ap (λ z. z ∷ ns) (one s n m (All-head IsFinished s ss f) (o s (0, omega arith, refl)) h.0 k.0)
    ∙ ap (λ z. m ∷ z) (one_all one ss ns ms (All-tail IsFinished s ss f) (λ x c. o x (suc c.0, omega (arith, c.1), c.2)) h.1 k.1)

-- names of one module among those of all
once_left : (xss yss : List (List Word)) → AllOnce (xss ++ yss) → AllOnce xss
once_left [] yss h = tt
once_left (xs ∷ xss) yss h = (h.0, once_left xss yss h.1)

once_right : (xss yss : List (List Word)) → AllOnce (xss ++ yss) → AllOnce yss
once_right [] yss h = h
once_right (xs ∷ xss) yss h = once_right xss yss h.1

pub once_at : (before : List Word) (ss : List Source) → AllOnce (said before ss) → (s : Source) → Contains ss s → AllOnce (said_in s)
once_at before [] h s c = absurd (omega (arith, c.1))
once_at before (x ∷ ss) h s c = elim (head_case x ss s c) [
  | inl e ↦ subst (λ (z : Source). AllOnce (said_in z)) e (once_left (said_in x) (said (before ++ x.name ∷ []) ss) h.1)
  | inr k ↦ once_at (before ++ x.name ∷ []) ss (once_right (said_in x) (said (before ++ x.name ∷ []) ss) h.1) s k
]

-- names of modules differ
pub names_once : (before : List Word) (ss : List Source) → AreOnce before → AllOnce (said before ss) → AreOnce (before ++ map (λ (s : Source). s.name) ss)
names_once before [] b h = subst AreOnce (sym (append-nil before)) b
names_once before (s ∷ ss) b h =
    let e : (before ++ s.name ∷ []) ++ map (λ (x : Source). x.name) ss ≡ before ++ s.name ∷ map (λ (x : Source). x.name) ss = append_assoc before (s.name ∷ []) (map (λ (x : Source). x.name) ss) in
    subst AreOnce e (names_once (before ++ s.name ∷ []) ss h.0 (once_right (said_in s) (said (before ++ s.name ∷ []) ss) h.1))

no_loop : (ns : List Net) (name : Word) → AllByRecursion IsLoopless ns → FirstLoop ns name → ⊥
no_loop ns name h f = at f.front (subst (AllByRecursion IsLoopless) f.are h) name f.loop.loop
  where
    at : (ys : List Net) → AllByRecursion IsLoopless (ys ++ f.net ∷ f.rest) → IsLoopless f.net
    at [] t = t.0
    at (y ∷ ys) t = at ys t.1

pub record HasLaws : Type 0 where
  pub finished : ModulesAreFinished
  pub made : NetIsMade
  pub once : OneIsMade
  pub fits : MadeFits

pub denoted_read : HasLaws → (text : List ℕ) (ns : List Net) (e : VErr) → Denotes text ns → IsTold text e → e ≡ Memory
denoted_read laws text ns (At byte) d t = absurd (denoted_stays text ns byte d t)
denoted_read laws text ns (Twice name) d t =
    let m : t.0 ≡ d.modules = written_once text t.0 d.modules t.1 d.written in
    absurd (once_all (said [] d.modules) name (denoted_once text ns d) (subst (λ z. FirstTwice (said [] z) name) m t.2))
denoted_read laws text ns (Width line) d t =
    let m : d.modules ≡ t.modules = written_once text d.modules t.modules d.written t.written in
    absurd (laws.fits t.modules ns t.number (subst (λ z. AllZip IsMadeOf z ns) m (made_all laws.made d.modules ns d.nets_of)) t.misfit)
denoted_read laws text ns (Loop name) d t =
    let m : d.modules ≡ t.modules = written_once text d.modules t.modules d.written t.written in
    let mine : AllZip IsMadeOf t.modules ns = subst (λ z. AllZip IsMadeOf z ns) m (made_all laws.made d.modules ns d.nets_of) in
    let same : t.nets ≡ ns = one_all laws.once t.modules t.nets ns (laws.finished (words_of t.written.tokens) t.modules t.written.are) (once_at [] t.modules t.once) t.made mine in
    absurd (no_loop ns name (loopless_all d.modules ns d.nets_of) (subst (λ z. FirstLoop z name) same t.loop))
denoted_read laws text ns Memory d t = refl

-- ---- what was made line by line, without a loop, is denoted
zip_map : {X Y Z : Type 0} (R : X → Y → Type 0) (f : X → Z) (g : Y → Z) (xs : List X) (ys : List Y) → ((x : X) (y : Y) → R x y → g y ≡ f x) → AllZip R xs ys → map g ys ≡ map f xs
zip_map R f g [] [] t h = refl
zip_map R f g [] (y ∷ ys) t h = absurd h
zip_map R f g (x ∷ xs) [] t h = absurd h
zip_map R f g (x ∷ xs) (y ∷ ys) t h = ap (λ z. z ∷ map g ys) (t x y h.0) ∙ ap (λ z. f x ∷ z) (zip_map R f g xs ys t h.1)

driven_each : (ss : List Source) (ns : List Net) → ((s : Source) → Contains ss s → AllOnce (said_in s)) → AllZip IsMadeOf ss ns → AllByRecursion (λ (n : Net). AreDrivenOnce n.cells) ns
driven_each [] [] o h = tt
driven_each [] (n ∷ ns) o h = absurd h
driven_each (s ∷ ss) [] o h = absurd h
driven_each (s ∷ ss) (n ∷ ns) o h =
    let t : map (λ (c : Cell). c.target) n.cells ≡ targets s.assigns = zip_map (IsCellOf s) (λ (a : Assign). a.target) (λ (c : Cell). c.target) s.assigns n.cells (λ a c k. k.target) h.0.cells in
    (subst AreOnce (sym t) (o s (0, omega arith, refl)).1.0, driven_each ss ns (λ x c. o x (suc c.0, omega (arith, c.1), c.2)) h.1)

pub driven_once : (ss : List Source) (ns ms : List Net) → ms ≡ ns → AllOnce (said [] ss) → AllZip IsMadeOf ss ns → All (λ (n : Net). AreDrivenOnce n.cells) ms
driven_once ss ns ms e o h = All-from_recursion (λ (n : Net). AreDrivenOnce n.cells) ms (subst (AllByRecursion (λ (n : Net). AreDrivenOnce n.cells)) (sym e) (driven_each ss ns (once_at [] ss o) h))

nets_each : MadeIsNet → (ss : List Source) (ns : List Net) → All IsFinished ss → ((s : Source) → Contains ss s → AllOnce (said_in s)) → All IsLoopless ns → AllZip IsMadeOf ss ns → AllZip IsNetOf ss ns
nets_each law [] [] f o l h = tt
nets_each law [] (n ∷ ns) f o l h = absurd h
nets_each law (s ∷ ss) [] f o l h = absurd h
nets_each law (s ∷ ss) (n ∷ ns) f o l h =
    (law s n (All-head IsFinished s ss f) (o s (0, omega arith, refl)) h.0 (All-head IsLoopless n ns l), nets_each law ss ns (All-tail IsFinished s ss f) (λ x c. o x (suc c.0, omega (arith, c.1), c.2)) (All-tail IsLoopless n ns l) h.1)

pub denotes_made : ModulesAreFinished → MadeIsNet → (text : List ℕ) (ss : List Source) (ns ms : List Net) → ms ≡ ns → IsWritten text ss → AllOnce (said [] ss) → AllZip IsMadeOf ss ns → All IsLoopless ms → Denotes text ns
denotes_made finished law text ss ns ms e w o h l =
    let z : AllZip IsNetOf ss ns = nets_each law ss ns (finished (words_of w.tokens) ss w.are) (once_at [] ss o) (subst (All IsLoopless) e l) h in
    record { modules = ss; written = w; nets_of = z; apart = subst AreOnce (sym (names_zip ss ns z)) (names_once [] ss (λ i j d k m. absurd (omega (arith, m))) o) }

-- ---- the answer is the nets that the text denotes
pub read_exactly : OneDenotation → DenotedIsNotRefused → (text : List ℕ) (r : Result (List Net) VErr) → IfOk r (Denotes text) → IfErr r (IsTold text) → (ns : List Net) → Denotes text ns → IsRead r ns
read_exactly one law text (Ok ms) d t ns e = one text ms ns d e
read_exactly one law text (Err error) d t ns e = law text ns error e t
