-- An instruction with a unit has a target, and each custom target is one of the extension's registers.
use Rattle.std.proofs.Common.{◌≡◌, ◌⊎◌, inl, inr, refl, sym, ap, subst, ◌∙◌, ⊎_elim, ℕ, zero, suc, ◌+◌, ◌<◌, ◌≤◌, arith, List, [], ◌∷◌, length, length-set, map, set, get_or, Option, Some, Bool, true, false, Contains}
use Rattle.std.specs.Prelude.{slice_get, slice_index_or, ◌&&◌}
use Rattle.std.specs.List.{list_any}
use Rattle.std.proofs.lemmas.Bool.{or_cases, and_parts, false≢true, eqb-true, eq-eqb}
use Rattle.std.proofs.lemmas.List.{length-map}
use Rattle.std.proofs.lemmas.Option.{same_Some}
use Rattle.ix_extension.specs.Extensions.{ExtensionTree}
use Rattle.ix_behaviour.specs.declared.which.Which.{Which}
use Rattle.ix_behaviour.specs.Behaviours.{spawned_at, targets_at, type_of_register}
use Rattle.ix_behaviour.specs.Flags.{unmarked, marked, flags_at}
use Rattle.ix_flow.specs.Flows.{target_of, flag_at, flag_of}
use Rattle.ix_graph.specs.declared.kind.Kind.{Kind}
use Rattle.ix_graph.specs.declared.kind.Kind.TheVariants as k
use Rattle.ix_graph.specs.declared.graph.Op.{Op}
use Rattle.ix_plan.specs.declared.design.Plan.{Plan}
use Rattle.ix_plan.specs.declared.design.Design.{Design}
use Rattle.ix_plan.specs.declared.design.Target.{Target}
use Rattle.ix_plan.specs.declared.design.Target.TheVariants.{X, Custom}
use Rattle.ix_sheet.specs.Behaviours.{IsSpawning}
use Rattle.ix_sheet.specs.declared.sheet.Sheet.{Sheet}
use Rattle.ix_standing.specs.Standing.{IsPlanned}
use Rattle.ix_depends.specs.Laws.{AreTimely}
use Rattle.rv_isa.specs.Fields.{rd_of}
use Rattle.rv_asks.specs.declared.asks.Act.{Act}
use Rattle.rv_asks.specs.Acts as acts
use Rattle.rv_asks.specs.Asks.{some_so}
use Rattle.rv_lawful.specs.Outstanding.{is_register, has_target}
use Rattle.rv_sight.proofs.Asking as A
use Rattle.rv_sight.proofs.Asking.{asks_of, own_any}

-- ---- flags
marked_length : (fs : List Bool) (ts : List ℕ) → length (marked fs ts) ≡ length fs
marked_length fs [] = refl
marked_length fs (t ∷ ts) = marked_length (set fs t true) ts ∙ length-set fs t true

-- there is a flag for memory, rd, the pc and each register
flag_count : (x : ExtensionTree) (w : Which) → length (flags_at x w) ≡ 3 + length x.registers
flag_count x w =
    let flags = marked_length (map unmarked (targets_at x w)) (spawned_at x w) in
    let targets = length-map (targets_at x w) unmarked in
    let registers = length-map x.registers type_of_register in
    omega (arith, flags, targets, registers)

set_within : (fs : List Bool) (n : ℕ) → get_or fs n false ≡ true → n < length fs
set_within [] n h = cc
set_within (b ∷ fs) zero h = omega arith
set_within (b ∷ fs) (suc n) h = let l = set_within fs n h in omega (arith, l)

flag_there : (f : Op → Bool) (ops : List Op) (n : ℕ) (o : Op) → slice_get ops n ≡ Some o → slice_index_or (map f ops) n false ≡ f o
flag_there f [] n o e = cc
flag_there f (x ∷ ops) zero o e = ap f (same_Some x o e)
flag_there f (x ∷ ops) (suc n) o e = flag_there f ops n o e

-- an operation with its number, for which this is true
record IsFound (f : Op → Bool) (ops : List Op) : Type 0 where
  number : ℕ
  op : Op
  is : slice_get ops number ≡ Some op
  yes : f op ≡ true

found : (f : Op → Bool) (ops : List Op) → Contains (map f ops) true → IsFound f ops
found f [] (n, l, e) = absurd (omega (arith, l))
found f (o ∷ ops) (zero, l, e) = record { number = 0; op = o; is = refl; yes = e }
found f (o ∷ ops) (suc n, l, e) = let r = found f ops (n, omega (arith, l), e) in record { number = suc r.number; op = r.op; is = r.is; yes = r.yes }

-- ---- acts
record IsAct (p : Plan) (f : Act → Bool) (b : ℕ) (ops : List Op) : Type 0 where
  place : ℕ
  number : ℕ
  op : Op
  at : number ≡ b + place
  is : slice_get ops place ≡ Some op
  yes : f (acts.act_at p number op) ≡ true

act_from : (p : Plan) (f : Act → Bool) (b : ℕ) (ops : List Op) → list_any f (acts.acts_from p b ops) ≡ true → IsAct p f b ops
act_from p f b [] h = cc
act_from p f b (o ∷ ops) h =
    ⊎_elim (λ (e : f (acts.act_at p b o) ≡ true). here e)
    (λ (e : list_any f (acts.acts_from p (b + 1) ops) ≡ true). later (act_from p f (b + 1) ops e))
    (or_cases (f (acts.act_at p b o)) (list_any f (acts.acts_from p (b + 1) ops)) h)
  where
    here : f (acts.act_at p b o) ≡ true → IsAct p f b (o ∷ ops)
    here e = record { place = 0; number = b; op = o; at = omega arith; is = refl; yes = e }

    later : IsAct p f (b + 1) ops → IsAct p f b (o ∷ ops)
    later r = let e = r.at in record { place = suc r.place; number = r.number; op = r.op; at = omega (arith, e); is = r.is; yes = r.yes }

-- ---- kinds
-- what a kind with a flag writes
abbrev Writes : List Bool → Kind → Type 0
Writes fs kind = (kind ≡ k.WrMem) ⊎ ((kind ≡ k.WrPC) ⊎ ((kind ≡ k.WrRD) ⊎ ((r : ℕ) × (kind ≡ k.WrCustReg r) × (3 + r < length fs))))

flagged : (fs : List Bool) (kind : Kind) → flag_at fs (target_of kind) ≡ true → Writes fs kind
flagged fs k.WrMem h = inl refl
flagged fs k.WrPC h = inr (inl refl)
flagged fs k.WrRD h = inr (inr (inl refl))
flagged fs (k.WrCustReg r) h = inr (inr (inr (r, refl, set_within fs (3 + r) h)))
flagged fs _ h = cc

custom_target : (r : ℕ) (kind : Kind) → acts.is_custom_write r kind ≡ true → target_of kind ≡ Some (3 + r)
custom_target r (k.WrCustReg number) h = ap (λ n. Some (3 + n)) (eqb-true number r h)
custom_target r _ h = cc

-- ---- a planned instruction
module _ (x : ExtensionTree) (sheet : Sheet) (w : Which) (p : Plan) (planned : IsPlanned x sheet w p) where
  abbrev flags : List Bool
  flags = flags_at x w

  flag_is : (n : ℕ) (o : Op) → slice_get p.graph.ops n ≡ Some o → slice_index_or p.graph.spawned n false ≡ flag_of (flags_at x w) o
  flag_is n o e = ap (λ (fs : List Bool). slice_index_or fs n false) planned.graph.flags ∙ flag_there (flag_of (flags_at x w)) p.graph.ops n o e

  -- one with a write of a spawn body has a target
  pub some_target : AreTimely sheet p → length x.registers ≤ 16 → IsSpawning p.graph → (d : Design) (word : ℕ) (unit : Option ℕ) → (t : Target) × (has_target (asks_of d word unit p) t ≡ true)
  some_target timely few spawning d word unit = by (flagged (flags_at x w) r.op.kind r.yes)
    where
      r : IsFound (flag_of (flags_at x w)) p.graph.ops
      r = found (flag_of (flags_at x w)) p.graph.ops (subst (λ (fs : List Bool). Contains fs true) planned.graph.flags spawning)

      is_spawned : slice_index_or p.graph.spawned r.number false ≡ true
      is_spawned = flag_is r.number r.op r.is ∙ r.yes

      both : (b c : Bool) → b ≡ true → c ≡ true → (b && c) ≡ true
      both true true e h = refl
      both true false e h = cc
      both false c e h = cc

      named : (b : Bool) (n : ℕ) → b ≡ true → is_register (some_so b n) n ≡ true
      named true n e = eq-eqb n n refl
      named false n e = cc

      by : Writes (flags_at x w) r.op.kind → (t : Target) × (has_target (asks_of d word unit p) t ≡ true)
      by (inl e) = absurd (false≢true (sym (timely.stays r.number r.op r.is e) ∙ is_spawned))
      by (inr (inl e)) = absurd (false≢true (sym (timely.jumps r.number r.op r.is e) ∙ is_spawned))
      by (inr (inr (inl e))) = (
        X (rd_of word),
        named (list_any acts.spawns_x (acts.acts_of p)) (rd_of word)
            (own_any acts.spawns_x p r.number r.op r.is (both (slice_index_or p.graph.spawned r.number false) (acts.is_destination r.op.kind) is_spawned (ap acts.is_destination e))),
      )
      by (inr (inr (inr (c, e, l)))) =
          let count = flag_count x w in (
            Custom c,
            A.flags_at (λ q. list_any (acts.spawns_custom q) (acts.acts_of p)) 16 c (omega (arith, count, l, few))
                ∙ own_any (acts.spawns_custom c) p r.number r.op r.is
                (both (slice_index_or p.graph.spawned r.number false) (acts.is_custom_write c r.op.kind) is_spawned (ap (acts.is_custom_write c) e ∙ eq-eqb c c refl)),
          )

  -- a custom register that it writes by `spawn` is one of the registers
  pub custom_within : (c : ℕ) → list_any (acts.spawns_custom c) (acts.acts_of p) ≡ true → c < length x.registers
  custom_within c h =
      let r = act_from p (acts.spawns_custom c) 0 p.graph.ops h in
      let at = r.at in
      let same : r.place ≡ r.number = omega (arith, at) in
      let is : slice_get p.graph.ops r.number ≡ Some r.op = subst (λ (n : ℕ). slice_get p.graph.ops n ≡ Some r.op) same r.is in
      let parts = and_parts (slice_index_or p.graph.spawned r.number false) (acts.is_custom_write c r.op.kind) r.yes in
      let flag : get_or (flags_at x w) (3 + c) false ≡ true =
      sym (ap (flag_at (flags_at x w)) (custom_target c r.op.kind parts.1)) ∙ sym (flag_is r.number r.op is) ∙ parts.0 in
      let l = set_within (flags_at x w) (3 + c) flag in
      let count = flag_count x w in
      omega (arith, l, count)
