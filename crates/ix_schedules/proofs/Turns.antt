-- Behaviours in their turn: those that were reported, the first that was not, and which behaviours there are.
use Rattle.std.proofs.Common.{◌≡◌, sym, ap, subst, ℕ, zero, suc, ◌+◌, ◌<◌, ◌≤◌, List, [], ◌∷◌, ◌++◌, length, map, take, get_or, Option, Some, arith, inl, inr}
use Rattle.std.specs.Prelude.{All, option_map, slice_get}
use Rattle.std.specs.List.{range_with_len}
use Rattle.std.proofs.lemmas.List.{take_all}
use Rattle.std.proofs.lemmas.List.Elements.{All-nil, All-cons, All-head, All-tail, All-get_or}
use Rattle.std.proofs.lemmas.Option.{slice_get-get_or}
use Rattle.ix_extension.specs.Extensions.{BehaviourTree, InstructionTree, ExtensionTree}
use Rattle.ix_behaviour.specs.declared.which.Which.{Which}
use Rattle.ix_behaviour.specs.declared.which.Which.TheVariants as W
use Rattle.ix_behaviour.specs.Behaviours.{HasBehaviour, behaviour_of}
use Rattle.ix_sheet.specs.declared.sheet.Sheet.{Sheet}
use Rattle.ix_cert.specs.declared.report.ReportBlock.{ReportBlock}
use Rattle.ix_cert.specs.Layout.{IsName}
use Rattle.ix_schedules.specs.declared.scheduling.ScheduleErr.{ScheduleErr}
use Rattle.ix_schedules.specs.declared.scheduling.ScheduleErr.TheVariants.{TooManyOps, NoSchedule, Memory}
use Rattle.ix_schedules.specs.Scheduling.{behaviours_of, name_in, name_at, AreNamed, IsReported, IsSchedulable, AreReported, AtFirst, IsRefusedAs, IsFirstRefused}

-- ---- in their turn
can_be : (x : ExtensionTree) (sheet : Sheet) (w : Which) (b : ReportBlock) → IsReported x sheet w b → IsSchedulable x sheet w
can_be x sheet w b r = record { graph = r.graph; graph_is = r.graph_is; fits = r.said.fits }

-- one more is reported
more : (x : ExtensionTree) (sheet : Sheet) (ws : List Which) (bs : List ReportBlock) (k : ℕ) (d : Which) (b : ReportBlock) → k < length ws → AreReported x sheet (take k ws) bs → IsReported x sheet (get_or ws k d) b
    → AreReported x sheet (take (suc k) ws) (bs ++ b ∷ [])
more x sheet [] bs k d b h r s = absurd (omega (arith, h))
more x sheet (w ∷ ws) [] zero d b h r s = (s, tt)
more x sheet (w ∷ ws) (c ∷ bs) zero d b h r s = absurd r
more x sheet (w ∷ ws) [] (suc k) d b h r s = absurd r
more x sheet (w ∷ ws) (c ∷ bs) (suc k) d b h r s = (r.0, more x sheet ws bs k d b (omega (arith, h)) r.1 s)

pub reported_more : (x : ExtensionTree) (sheet : Sheet) (ws : List Which) (bs all : List ReportBlock) (k : ℕ) (d : Which) (b : ReportBlock) → k < length ws → AreReported x sheet (take k ws) bs → IsReported x sheet (get_or ws k d) b → all ≡ bs ++ b ∷ []
    → AreReported x sheet (take (k + 1) ws) all
reported_more x sheet ws bs all k d b h r s e =
    let j : k + 1 ≡ suc k = omega arith in
    rw (j, e) (more x sheet ws bs k d b h r s)

pub reported_all : (x : ExtensionTree) (sheet : Sheet) (ws : List Which) (bs : List ReportBlock) (k : ℕ) → length ws ≤ k → AreReported x sheet (take k ws) bs → AreReported x sheet ws bs
reported_all x sheet ws bs k h r = subst (λ (l : List Which). AreReported x sheet l bs) (take_all k ws h) r

-- the next is not
first_at : (x : ExtensionTree) (sheet : Sheet) (Here : Which → Type 0) (ws : List Which) (bs : List ReportBlock) (k : ℕ) (d : Which) → k < length ws → AreReported x sheet (take k ws) bs → Here (get_or ws k d) → AtFirst (IsSchedulable x sheet) Here ws
first_at x sheet Here [] bs k d h r here = absurd (omega (arith, h))
first_at x sheet Here (w ∷ ws) bs zero d h r here = inl here
first_at x sheet Here (w ∷ ws) [] (suc k) d h r here = absurd r
first_at x sheet Here (w ∷ ws) (b ∷ bs) (suc k) d h r here = inr (can_be x sheet w b r.0, first_at x sheet Here ws bs k d (omega (arith, h)) r.1 here)

pub refused_next : (x : ExtensionTree) (sheet : Sheet) (ws : List Which) (bs : List ReportBlock) (k : ℕ) (d : Which) (e : ScheduleErr) → k < length ws → AreReported x sheet (take k ws) bs → IsRefusedAs x sheet e (get_or ws k d) → IsFirstRefused x sheet ws e
refused_next x sheet ws bs k d (TooManyOps name) h r here = first_at x sheet (IsRefusedAs x sheet (TooManyOps name)) ws bs k d h r here
refused_next x sheet ws bs k d (NoSchedule b) h r here = first_at x sheet (IsRefusedAs x sheet (NoSchedule b)) ws bs k d h r here
refused_next x sheet ws bs k d Memory h r here = tt

-- ---- each behaviour of the list is one of the extension
all_join : {A : Type 0} (P : A → Type 0) (xs ys : List A) → All P xs → All P ys → All P (xs ++ ys)
all_join P [] ys a b = b
all_join P (x ∷ xs) ys a b = All-cons P x (xs ++ ys) (All-head P x xs a) (all_join P xs ys (All-tail P x xs a) b)

below_end : (P : Which → Type 0) (f : ℕ → Which) (from n : ℕ) → ((k : ℕ) → k < from + n → P (f k)) → All P (map f (range_with_len from n))
below_end P f from zero h = All-nil P
below_end P f from (suc n) h = All-cons P (f from) (map f (range_with_len (from + 1) n)) (h from (omega arith)) (below_end P f (from + 1) n (λ k l. h k (omega (arith, l))))

pub in_range : (x : ExtensionTree) → All (HasBehaviour x) (behaviours_of x)
in_range x =
    all_join (HasBehaviour x) (map (λ n. W.Instruction n) (range_with_len 0 (length x.instructions))) (map (λ n. W.Block n) (range_with_len 0 (length x.blocks)))
    (below_end (HasBehaviour x) (λ n. W.Instruction n) 0 (length x.instructions) (λ k h. omega (arith, h)))
    (below_end (HasBehaviour x) (λ n. W.Block n) 0 (length x.blocks) (λ k h. omega (arith, h)))

-- ---- its name
no_tree : InstructionTree
no_tree = record { mask = 0; matches = 0; pieces = []; behaviour = record { name = []; body = [] } }

no_block : BehaviourTree
no_block = record { name = []; body = [] }

instruction_named : (o : Option InstructionTree) (i : InstructionTree) → o ≡ Some i → name_in (option_map behaviour_of o) ≡ i.behaviour.name
instruction_named o i e = ap (λ (z : Option InstructionTree). name_in (option_map behaviour_of z)) e

pub named_at : (x : ExtensionTree) (w : Which) → AreNamed x → HasBehaviour x w → IsName (name_at x w)
named_at x (W.Instruction n) named h =
    let there = slice_get-get_or x.instructions n no_tree h in
    subst IsName (sym (instruction_named (slice_get x.instructions n) (get_or x.instructions n no_tree) there)) (All-get_or (λ (i : InstructionTree). IsName i.behaviour.name) x.instructions n no_tree h named.instructions)
named_at x (W.Block n) named h =
    let there = slice_get-get_or x.blocks n no_block h in
    subst IsName (sym (ap (λ (z : Option BehaviourTree). name_in z) there)) (All-get_or (λ (b : BehaviourTree). IsName b.name) x.blocks n no_block h named.blocks)
