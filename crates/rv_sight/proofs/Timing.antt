-- When an instruction writes its x register: never before EX, and a load of the base set at MEM.
use Rattle.std.proofs.Common.{◌≡◌, ◌≢◌, refl, sym, ap, subst, ◌∙◌, ℕ, suc, ◌+◌, ◌≤◌, arith, List, [], ◌∷◌, Option, Some, None, Bool, true, false}
use Rattle.std.specs.Prelude.{if◌then◌else◌, slice_get, slice_index, is_some, not, ◌||◌, ◌==◌}
use Rattle.std.specs.List.{list_any}
use Rattle.std.proofs.lemmas.Bool.{and_parts, eqb-true}
use Rattle.ix_graph.specs.declared.kind.Kind.{Kind}
use Rattle.ix_graph.specs.declared.kind.Kind.TheVariants as k
use Rattle.ix_graph.specs.declared.graph.Op.{Op}
use Rattle.ix_extension.specs.Extensions.{ExtensionTree, view_extension}
use Rattle.ix_behaviour.specs.declared.which.Which.TheVariants as W
use Rattle.ix_plan.specs.declared.design.Plan.{Plan}
use Rattle.ix_plan.specs.declared.design.Design.{Design}
use Rattle.ix_standing.specs.Standing.{Stands}
use Rattle.ix_depends.specs.Laws.{TimesLaw}
use Rattle.rv_core.specs.declared.Shape.{Shape}
use Rattle.rv_base.specs.Effects.{load_at}
use Rattle.rv_isa.specs.declared.base.Base.{Base}
use Rattle.rv_isa.specs.Fields.{rd_of}
use Rattle.rv_seq.specs.Decoding.{decoded_in}
use Rattle.rv_seq.specs.declared.decoded.Decoded.{Decoded}
use Rattle.rv_seq.specs.declared.decoded.Decoded.TheVariants as D
use Rattle.rv_asks.specs.declared.asks.Act.{Act}
use Rattle.rv_asks.specs.declared.asks.Asks.{Asks}
use Rattle.rv_asks.specs.Acts as acts
use Rattle.rv_asks.specs.Asks.{where_so, base_time, base_destination, base_asks, blank_in, asks_in}
use Rattle.rv_unit.specs.Numbering.{unit_of}
use Rattle.rv_lawful.specs.Sight.{TimeLaw}
use Rattle.rv_sight.proofs.Asking.{asks_of, own_asks, base_asks_are, none_asks}
use Rattle.rv_sight.proofs.Plans.{plan_of, own_within}

-- ---- the first act of which something is true
record IsFirst (p : Plan) (f : Act → Bool) (b : ℕ) (ops : List Op) : Type 0 where
  place : ℕ
  number : ℕ
  op : Op
  at : number ≡ b + place
  is : slice_get ops place ≡ Some op
  yes : f (acts.act_at p number op) ≡ true
  time : acts.time_of f (acts.acts_from p b ops) ≡ slice_index p.times number

first_from : (p : Plan) (f : Act → Bool) (b : ℕ) (ops : List Op) → list_any f (acts.acts_from p b ops) ≡ true → IsFirst p f b ops
first_from p f b [] h = cc
first_from p f b (o ∷ ops) h = by (f (acts.act_at p b o)) refl h (λ e. first_from p f (b + 1) ops e)
  where
    first : f (acts.act_at p b o) ≡ true → IsFirst p f b (o ∷ ops)
    first e =
        record { place = 0; number = b; op = o; at = omega arith; is = refl; yes = e; time = ap (λ (c : Bool). if c then (acts.act_at p b o).time else acts.time_of f (acts.acts_from p (b + 1) ops)) e }

    later : f (acts.act_at p b o) ≡ false → IsFirst p f (b + 1) ops → IsFirst p f b (o ∷ ops)
    later e r =
        let at = r.at in
        record {
          place = suc r.place;
          number = r.number;
          op = r.op;
          at = omega (arith, at);
          is = r.is;
          yes = r.yes;
          time = ap (λ (c : Bool). if c then (acts.act_at p b o).time else acts.time_of f (acts.acts_from p (b + 1) ops)) e ∙ r.time;
        }

    by : (c : Bool) → f (acts.act_at p b o) ≡ c → (c || list_any f (acts.acts_from p (b + 1) ops)) ≡ true → (list_any f (acts.acts_from p (b + 1) ops) ≡ true → IsFirst p f (b + 1) ops) → IsFirst p f b (o ∷ ops)
    by true e q r = first e
    by false e q r = later e (r q)

destination_kind : (kind : Kind) → acts.is_destination kind ≡ true → kind ≡ k.WrRD
destination_kind k.WrRD h = refl
destination_kind _ h = cc

where_some : (b : Bool) (n : ℕ) → where_so b n ≢ 0 → b ≡ true
where_some true n h = refl
where_some false n h = absurd (h refl)

-- ---- an instruction with a plan
module _ (d : Design) (word : ℕ) (unit : Option ℕ) (p : Plan) where
  -- an operation that writes the x register, at the time that is asked
  pub record HasWrite : Type 0 where
    pub number : ℕ
    pub op : Op
    pub is : slice_get p.graph.ops number ≡ Some op
    pub kind : op.kind ≡ k.WrRD
    pub time : (asks_of d word unit p).x_time ≡ slice_index p.times number

  -- an instruction with a destination has one
  pub has_write : (asks_of d word unit p).destination ≢ 0 → HasWrite
  has_write some =
      let r = first_from p acts.writes_own 0 p.graph.ops (where_some (list_any acts.writes_own (acts.acts_of p)) (rd_of word) some) in
      let at = r.at in
      let same : r.place ≡ r.number = omega (arith, at) in
      record {
        number = r.number;
        op = r.op;
        is = subst (λ (n : ℕ). slice_get p.graph.ops n ≡ Some r.op) same r.is;
        kind = destination_kind r.op.kind (and_parts (not (acts.act_at p r.number r.op).spawned) (acts.is_destination r.op.kind) r.yes).1;
        time = r.time;
      }

-- ---- a base instruction
-- its time, where it has a destination
written_at : (shape : Shape) (b : Base) → base_destination b ≢ 0 → (if base_destination b == 0 then 0 else base_time shape b) ≡ base_time shape b
written_at shape b some = by (base_destination b == 0) refl
  where
    by : (c : Bool) → (base_destination b == 0) ≡ c → (if c then 0 else base_time shape b) ≡ base_time shape b
    by true e = absurd (some (eqb-true (base_destination b) 0 e))
    by false e = refl

-- a load writes at MEM
pub load_late : (d : Design) (b : Base) → (base_asks d.sheet.shape (blank_in d).customs b).destination ≢ 0 → is_some (load_at b) ≡ true → (base_asks d.sheet.shape (blank_in d).customs b).x_time ≡ d.sheet.shape.mem
load_late d b some loads = written_at d.sheet.shape b some ∙ ap (λ (c : Bool). if c then d.sheet.shape.mem else d.sheet.shape.ex) loads

-- none writes before EX
base_late : (shape : Shape) (b : Base) → shape.ex ≤ base_time shape b
base_late shape b = by (is_some (load_at b))
  where
    by : (c : Bool) → shape.ex ≤ (if c then shape.mem else shape.ex)
    by true = (let late = shape.lawful.memory_late in omega (arith, late))
    by false = omega arith

-- ---- any word
module _ (times : TimesLaw) (d : Design) (stands : Stands d) where
  abbrev x : ExtensionTree
  x = view_extension d.extension

  -- what is asked has no destination, or a time from EX on
  abbrev IsTimed : Asks → Type 0
  IsTimed a = a.destination ≢ 0 → d.sheet.shape.ex ≤ a.x_time

  timed_at : (word : ℕ) (o : Option Decoded) → decoded_in x word ≡ o → IsTimed (asks_in d word o)
  timed_at word None is = subst IsTimed (sym (none_asks d word)) (λ some. absurd (some refl))
  timed_at word (Some (D.Base b)) is =
      subst IsTimed (sym (base_asks_are d word b)) (λ some. (let time = written_at d.sheet.shape b some in let late = base_late d.sheet.shape b in omega (arith, time, late)))
  timed_at word (Some (D.Own n)) is =
      let l = own_within x word n is in
      let p = plan_of d stands n l in
      let timely = times stands.well_formed.0 x d.sheet (W.Instruction n) p.plan stands.well_formed.1 l stands.sheet p.planned in
      subst IsTimed (sym (own_asks d word n p.plan p.there))
      (λ some.
      (let w = has_write d word (unit_of d.plans n) p.plan some in let time = w.time in let late = timely.results w.number w.op w.is w.kind in omega (arith, time, late)))

  pub time_law : TimeLaw d
  time_law word = timed_at word (decoded_in x word) refl
