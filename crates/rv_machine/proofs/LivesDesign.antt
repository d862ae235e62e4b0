-- What the lives of a behaviour's tokens ask of a design that stands.
use Rattle.std.proofs.Common.{◌≡◌, ℕ, zero, suc, ◌+◌, ◌-◌, ◌<◌, ◌≤◌, List, [], ◌∷◌, length, take, replicate, Option, Some, None, Bool, true, false, refl, sym, ap, ◌∙◌, subst, arith, inl, inr}
use Rattle.std.specs.Prelude.{if◌then◌else◌, option_map, slice_get, slice_index_or}
use Rattle.std.proofs.lemmas.Bool.{cases_lt}
use Rattle.std.proofs.lemmas.Option.{slice_get_within, slice_get-map, get_or_from_slice_get}
use Rattle.ix_behaviour.specs.declared.which.Which.{Which}
use Rattle.ix_behaviour.specs.Laws.{FewLaw}
use Rattle.ix_depends.specs.Laws.{TimesLaw}
use Rattle.ix_extension.specs.Extensions.{ExtensionTree, view_extension}
use Rattle.ix_graph.specs.declared.graph.Mode.{Mode}
use Rattle.ix_graph.specs.declared.graph.Mode.TheVariants.{InPipeline, Tight, Decoupled, Always}
use Rattle.ix_net.specs.declared.netlist.Net.{Net}
use Rattle.ix_plan.specs.declared.design.Design.{Design}
use Rattle.ix_plan.specs.declared.design.Plan.{Plan}
use Rattle.ix_plan.specs.Units.{Slots, unit_in, first_units}
use Rattle.ix_ports.specs.Ports.{input_ports, last_from}
use Rattle.ix_sheet.specs.Behaviours.{IsModeOf}
use Rattle.ix_standing.specs.Standing.{behaviours_of, is_block, IsBuilt, Stands}
use Rattle.rv_asks.specs.declared.asks.Outline.{Outline}
use Rattle.rv_asks.specs.Asks.{tail_of, plan_outline, block_acts, outlines_in, blank_in, asks_in}
use Rattle.rv_seq.specs.declared.decoded.Decoded.{Decoded}
use Rattle.rv_seq.specs.declared.decoded.Decoded.TheVariants as D
use Rattle.rv_seq.specs.Decoding.{decoded_in}
use Rattle.rv_unit.specs.Numbering.{is_decoupled, with_last, lasts_of, unit_after, unit_of}
use Rattle.rv_ports.specs.Drives.{Drives, drives_of, own_number}
use Rattle.rv_ports.specs.Inputs.{module_of}
use Rattle.rv_machine.proofs.LivesBehaviours.{there, behaviour_of}
use Rattle.rv_machine.proofs.LivesCells.{IsCore}
use Rattle.rv_machine.proofs.LivesUnits.{AreBare, IsOfUnit}

-- ---- units by number

some_number : (x y : ℕ) → ◌≡◌ {A = Option ℕ} (Some x) (Some y) → x ≡ y
some_number x y e = cc

some_plan : (x y : Plan) → ◌≡◌ {A = Option Plan} (Some x) (Some y) → x ≡ y
some_plan x y e = cc

-- how many of the first plans are decoupled
abbrev counted : List Plan → ℕ → ℕ
counted plans n = length (lasts_of (take n plans))

one_counted : (b : Bool) (last : ℕ) (lasts : List ℕ) → length (with_last b last lasts) ≡ (if b then suc (length lasts) else length lasts)
one_counted true last lasts = refl
one_counted false last lasts = refl

counted_few : (plans : List Plan) (n : ℕ) → counted plans n ≤ n
counted_few plans zero = omega arith
counted_few [] (suc n) = omega arith
counted_few (q ∷ plans) (suc n) = by_mode (is_decoupled q.mode) (counted_few plans n) where
  by_mode : (b : Bool) → counted plans n ≤ n → length (with_last b q.last (lasts_of (take n plans))) ≤ suc n
  by_mode true h = omega (arith, h)
  by_mode false h = omega (arith, h)

-- a decoupled one counts for those behind it
counted_more : (plans : List Plan) (n i : ℕ) (p : Plan) → slice_get plans n ≡ Some p → is_decoupled p.mode ≡ true → n < i → counted plans n < counted plans i
counted_more [] n i p e h lt = cc
counted_more (q ∷ plans) zero zero p e h lt = absurd (omega (arith, lt))
counted_more (q ∷ plans) zero (suc i) p e h lt =
    let c = one_counted (is_decoupled q.mode) q.last (lasts_of (take i plans)) ∙ ap (λ (b : Bool). if b then suc (counted plans i) else counted plans i) (ap (λ (z : Plan). is_decoupled z.mode) (some_plan q p e) ∙ h) in
    omega (arith, c)
counted_more (q ∷ plans) (suc n) zero p e h lt = absurd (omega (arith, lt))
counted_more (q ∷ plans) (suc n) (suc i) p e h lt = by_mode (is_decoupled q.mode) (counted_more plans n i p e h (omega (arith, lt))) where
  by_mode : (b : Bool) → counted plans n < counted plans i → length (with_last b q.last (lasts_of (take n plans))) < length (with_last b q.last (lasts_of (take i plans)))
  by_mode true l = omega (arith, l)
  by_mode false l = l

-- what has a unit is decoupled, and the unit is the count of those before it
record IsNumbered (plans : List Plan) (n u : ℕ) : Type 0 where
  plan : Plan
  is : slice_get plans n ≡ Some plan
  decoupled : is_decoupled plan.mode ≡ true
  count : counted plans n ≡ u

numbered_of : (plans : List Plan) (n u : ℕ) → unit_of plans n ≡ Some u → IsNumbered plans n u
numbered_of plans n u e = by_plan (slice_get plans n) refl e where
  by_plan : (o : Option Plan) → slice_get plans n ≡ o → unit_after (counted plans n) o ≡ Some u → IsNumbered plans n u
  by_plan None q f = cc
  by_plan (Some p) q f = by_mode (is_decoupled p.mode) refl f where
    by_mode : (b : Bool) → is_decoupled p.mode ≡ b → (if b then Some (counted plans n) else None) ≡ Some u → IsNumbered plans n u
    by_mode true x g = record { plan = p; is = q; decoupled = x; count = some_number (counted plans n) u g }
    by_mode false x g = cc

-- no two behaviours have one unit
one_unit : (plans : List Plan) (n i u : ℕ) → unit_of plans n ≡ Some u → unit_of plans i ≡ Some u → n ≡ i
one_unit plans n i u e f =
    let a = numbered_of plans n u e in
    let b = numbered_of plans i u f in
    let ca = a.count in
    let cb = b.count in
    elim (cases_lt n i) [
      | inl lt ↦ (let l = counted_more plans n i a.plan a.is a.decoupled lt in absurd (omega (arith, l, ca, cb)))
      | inr le ↦ elim (cases_lt i n) [
        | inl lt ↦ (let l = counted_more plans i n b.plan b.is b.decoupled lt in absurd (omega (arith, l, ca, cb)))
        | inr ge ↦ omega (arith, le, ge)
      ]
    ]

-- ---- units before the first row

abbrev no_serial : Option ℕ
no_serial = None

none_replicated : (n a s : ℕ) → slice_get (replicate n no_serial) a ≡ Some (Some s) → ⊥
none_replicated zero a s e = cc
none_replicated (suc n) zero s e = cc
none_replicated (suc n) (suc a) s e = none_replicated n a s e

some_slots : (x y : Slots) → ◌≡◌ {A = Option Slots} (Some x) (Some y) → x ≡ y
some_slots x y e = cc

pub bare_first : (stages : ℕ) (plans : List Plan) → AreBare (first_units stages plans)
bare_first stages [] u slots a s e f = cc
bare_first stages (p ∷ plans) u slots a s e f = by_mode p.mode u e (λ i g. bare_first stages plans i slots a s g f) where
  by_mode : (mode : Mode) (u : ℕ) → slice_get (unit_in stages mode p.last (first_units stages plans)) u ≡ Some slots → ((i : ℕ) → slice_get (first_units stages plans) i ≡ Some slots → ⊥) → ⊥
  by_mode InPipeline u e rest = rest u e
  by_mode Tight u e rest = rest u e
  by_mode Always u e rest = rest u e
  by_mode Decoupled zero e rest = none_replicated (p.last + 1 - stages) a s (ap (λ (l : Slots). slice_get l a) (some_slots (replicate (p.last + 1 - stages) None) slots e) ∙ f)
  by_mode Decoupled (suc u) e rest = rest u e

-- ---- modes

decoupled_is : (mode : Mode) → is_decoupled mode ≡ true → mode ≡ Decoupled
decoupled_is Decoupled e = refl
decoupled_is InPipeline e = cc
decoupled_is Tight e = cc
decoupled_is Always e = cc

untailed_mode : (mode : Mode) (stages last : ℕ) → (mode ≡ Tight → ⊥) → tail_of mode stages last ≡ 0
untailed_mode Tight stages last other = absurd (other refl)
untailed_mode InPipeline stages last other = refl
untailed_mode Decoupled stages last other = refl
untailed_mode Always stages last other = refl

own_decoded : (o : Option Decoded) (n : ℕ) → own_number o ≡ Some n → o ≡ Some (D.Own n)
own_decoded None n e = cc
own_decoded (Some (D.Base b)) n e = cc
own_decoded (Some (D.Own i)) n e = ap (λ z. Some (D.Own z)) (some_number i n e)

module _ (d : Design) (image waits : List ℕ) (lines : Option (List ℕ)) (ps : List ℕ) (stands : Stands d) (n : ℕ) (p : Plan) (net : Net) (plan : slice_get d.plans n ≡ Some p) (net_is : slice_get d.nets n ≡ Some net) where
  abbrev x : ExtensionTree
  x = view_extension d.extension

  abbrev drives : Drives
  drives = drives_of d image waits lines ps

  pub core_is : IsCore (drives_of d image waits lines ps).setting
  core_is =
      let law = d.sheet.shape.lawful in
      let a = law.memory_late in
      let b = law.memory_inside in
      record { rd_pos = law.reads_late; rd_ex = law.reads_first; ex_last = omega (arith, a, b); most = law.most }

  -- the behaviour of this number
  pub record HasWhich : Type 0 where
    pub which : Which
    pub is : slice_get (behaviours_of x) n ≡ Some which
    pub built : IsBuilt x d.sheet which p net

  pub which_of : HasWhich
  which_of =
      let inside = slice_get_within d.plans n p plan in
      let plans = stands.built.plan_count in
      let w = there (behaviours_of x) n (omega (arith, inside, plans)) in
      record { which = w.item; is = w.is; built = stands.built.each n w.item p net w.is plan net_is }

  pub inputs_are : net.inputs ≡ input_ports d.sheet.shape.rd p.graph.ops p.times
  inputs_are = which_of.built.serves.inputs

  pub last_is : p.last ≡ last_from d.sheet.shape.rd p.times
  last_is = which_of.built.planned.last

  pub last_few : TimesLaw → p.last ≤ 64
  last_few law =
      let w = which_of in
      (law stands.well_formed.0 x d.sheet w.which p stands.well_formed.1 (behaviour_of x n w.which w.is).has stands.sheet w.built.planned).last

  -- ---- what is asked of its words

  asks_number : (word : ℕ) → drives.number word ≡ Some n → decoded_in x word ≡ Some (D.Own n)
  asks_number word e = own_decoded (decoded_in x word) n e

  pub own_tail : (word : ℕ) → drives.number word ≡ Some n → (p.mode ≡ Tight → ⊥) → (drives.setting.asks word).tail ≡ 0
  unfolding asks_in plan_outline
  own_tail word e other =
      let f : Plan → Outline = plan_outline d.sheet.shape (block_acts d) in
      let o : slice_index_or (outlines_in d) n (blank_in d) ≡ f p = get_or_from_slice_get (outlines_in d) n (f p) (blank_in d) (slice_get-map f d.plans n ∙ ap (option_map f) plan) in
      ap (λ z. (asks_in d word z).tail) (asks_number word e) ∙ ap (λ (z : Outline). z.tail) o ∙ untailed_mode p.mode d.sheet.shape.stages p.last other

  own_unit : (word : ℕ) (i : ℕ) → drives.number word ≡ Some i → (drives.setting.asks word).unit ≡ unit_of d.plans i
  unfolding asks_in
  own_unit word i e = ap (λ z. (asks_in d word z).unit) (own_decoded (decoded_in x word) i e)

  -- what has a unit is an instruction of the extension
  unit_own : (word u : ℕ) → (drives.setting.asks word).unit ≡ Some u → (i : ℕ) × (drives.number word ≡ Some i)
  unfolding asks_in
  unit_own word u e = by_decoded (decoded_in x word) refl e where
    by_decoded : (o : Option Decoded) → decoded_in x word ≡ o → (asks_in d word o).unit ≡ Some u → (i : ℕ) × (own_number (decoded_in x word) ≡ Some i)
    by_decoded None q f = cc
    by_decoded (Some (D.Base b)) q f = cc
    by_decoded (Some (D.Own i)) q f = (i, ap own_number q)

  pub of_unit : FewLaw → (u : ℕ) → (module_of drives n p).unit ≡ Some u → IsOfUnit drives n p u
  of_unit few u e =
      let w = which_of in
      let a = numbered_of d.plans n u e in
      let mode : p.mode ≡ Decoupled = decoupled_is p.mode (ap (λ (z : Plan). is_decoupled z.mode) (some_plan p a.plan (sym plan ∙ a.is)) ∙ a.decoupled) in
      let instruction : is_block w.which ≡ false = (subst (λ z. IsModeOf p.graph d.sheet (is_block w.which) z) mode w.built.planned.mode).0 in
      let l = (behaviour_of x n w.which w.is).below instruction in
      let most = (few stands.well_formed.0 x stands.well_formed.1).instructions in
      let c = counted_few d.plans n in
      let same = a.count in
      record {
        mode = mode;
        unit = e;
        few = omega (arith, l, most, c, same);
        enters = λ word f.
            let y = unit_own word u f in
            y.1 ∙ ap (λ i. Some i) (one_unit d.plans y.0 n u (sym (own_unit word y.0 y.1) ∙ f) e);
        numbered = λ word f. own_unit word n f ∙ e;
      }
