-- A behaviour is refused first for one cause, and what is built refuses none.
use Rattle.std.proofs.Common.{◌≡◌, ◌≢◌, ◌∙◌, sym, ap, subst, refl, ℕ, suc, Bool, List, [], ◌∷◌, map, Some, Result, Ok, Err, inl, inr, arith}
use Rattle.std.specs.Prelude.{slice_get, IfOk, IfErr}
use Rattle.std.proofs.lemmas.Option.{slice_get_within}
use Rattle.ix_graph.specs.declared.graph.Graph.{Graph}
use Rattle.ix_graph.specs.declared.graph.Mode.{Mode}
use Rattle.ix_graph.specs.declared.graph.Mode.TheVariants.{InPipeline, Tight, Decoupled, Always}
use Rattle.ix_extension.specs.Extensions.{ExtensionTree, view_extension}
use Rattle.ix_behaviour.specs.declared.which.Which.{Which}
use Rattle.ix_slots.specs.Found.{entries_of}
use Rattle.ix_sheet.specs.declared.sheet.Sheet.{Sheet}
use Rattle.ix_sheet.specs.Behaviours.{problem_of, IsWidestModeOf}
use Rattle.ix_cert.specs.declared.report.ReportBlock.{ReportBlock}
use Rattle.ix_reports.specs.Blocks.{kind_text}
use Rattle.ix_plan.specs.declared.design.Design.{Design}
use Rattle.ix_standing.specs.Standing.{behaviours_of, is_block, Stands}
use Rattle.ix_schedules.specs.declared.scheduling.ScheduleErr.{ScheduleErr}
use Rattle.ix_schedules.specs.declared.scheduling.ScheduleErr.TheVariants.{TooManyOps, NoSchedule, Memory}
use Rattle.ix_schedules.specs.Scheduling.{IsWithout, IsSchedulable, AtFirst, IsRefusedAs, IsFirstRefused}
use Rattle.ix_schedules.proofs.OneGraph.{one_graph}
use Rattle.ix_schedules.proofs.OneAnswer.{not_large, not_without, large_or_without}
use Rattle.ix_design.specs.Answers.{IsSameRefusal, IsAnswerTo}
use Rattle.ix_design.proofs.Turns.{some_at}
use Rattle.ix_design.proofs.Widest.{both_ways, can_be}

-- ---- the first behaviour of which one thing is so is the first of which another is, where those before it have neither
common : (Before P Q : Which → Type 0) → ((w : Which) → Before w → P w → ⊥) → ((w : Which) → Before w → Q w → ⊥) → (ws : List Which) → AtFirst Before P ws → AtFirst Before Q ws → (w : Which) × P w × Q w
common Before P Q p q [] f g = absurd f
common Before P Q p q (w ∷ ws) (inl f) (inl g) = (w, f, g)
common Before P Q p q (w ∷ ws) (inl f) (inr g) = absurd (p w g.0 f)
common Before P Q p q (w ∷ ws) (inr f) (inl g) = absurd (q w f.0 g)
common Before P Q p q (w ∷ ws) (inr f) (inr g) = common Before P Q p q ws f.1 g.1

none_first : (Before Here : Which → Type 0) → ((w : Which) → Before w → Here w → ⊥) → (ws : List Which) → ((k : ℕ) (w : Which) → slice_get ws k ≡ Some w → Before w) → AtFirst Before Here ws → ⊥
none_first Before Here apart [] each f = f
none_first Before Here apart (w ∷ ws) each (inl here) = apart w (each 0 w refl) here
none_first Before Here apart (w ∷ ws) each (inr f) = none_first Before Here apart ws (λ k v e. each (suc k) v e) f.1

-- ---- a behaviour has one widest mode, and so one problem in it
one_widest : (g : Graph) (block : Bool) (m n : Mode) → IsWidestModeOf g block m → IsWidestModeOf g block n → m ≡ n
one_widest g block Always Always a b = refl
one_widest g block Always Decoupled a b = absurd (both_ways block a b.0)
one_widest g block Always InPipeline a b = absurd b
one_widest g block Always Tight a b = absurd (both_ways block a b.0)
one_widest g block Decoupled Always a b = absurd (both_ways block b a.0)
one_widest g block Decoupled Decoupled a b = refl
one_widest g block Decoupled InPipeline a b = absurd b
one_widest g block Decoupled Tight a b = absurd (b.1 a.1)
one_widest g block InPipeline n a b = absurd a
one_widest g block Tight Always a b = absurd (both_ways block b a.0)
one_widest g block Tight Decoupled a b = absurd (a.1 b.1)
one_widest g block Tight InPipeline a b = absurd b
one_widest g block Tight Tight a b = refl

same_without : (x : ExtensionTree) (sheet : Sheet) (w : Which) (b c : ReportBlock) → IsWithout x sheet w b → IsWithout x sheet w c → IsSameRefusal (NoSchedule b) (NoSchedule c)
same_without x sheet w b c p q =
    let same : p.graph ≡ q.graph = one_graph x w (entries_of x.tables) p.graph q.graph p.graph_is q.graph_is in
    let one = p.said.none in
    let other = q.said.none in
    let widest = one_widest q.graph (is_block w) one.widest other.widest (subst (λ (g : Graph). IsWidestModeOf g (is_block w) one.widest) same one.widest_is) other.widest_is in (
      p.said.says.name_is ∙ sym q.said.says.name_is,
      p.said.says.kinds_are ∙ ap (λ (g : Graph). map kind_text g.ops) same ∙ sym q.said.says.kinds_are,
      p.said.says.problem_is ∙ one.problem_is ∙ ap (λ (g : Graph). problem_of g sheet one.widest) same ∙ ap (λ (m : Mode). problem_of q.graph sheet m) widest ∙ sym other.problem_is ∙ sym q.said.says.problem_is,
    )

same_refusal : (x : ExtensionTree) (sheet : Sheet) (ws : List Which) (e f : ScheduleErr) → IsFirstRefused x sheet ws e → IsFirstRefused x sheet ws f → e ≢ Memory → IsSameRefusal e f
same_refusal x sheet ws (TooManyOps m) (TooManyOps n) p q some =
    let r = common (IsSchedulable x sheet) (IsRefusedAs x sheet (TooManyOps m)) (IsRefusedAs x sheet (TooManyOps n)) (λ w s t. not_large x sheet w s t.0) (λ w s t. not_large x sheet w s t.0) ws p q in
    r.1.1 ∙ sym r.2.1
same_refusal x sheet ws (NoSchedule b) (NoSchedule c) p q some =
    let r = common (IsSchedulable x sheet) (IsRefusedAs x sheet (NoSchedule b)) (IsRefusedAs x sheet (NoSchedule c)) (λ w s t. not_without x sheet w b s t) (λ w s t. not_without x sheet w c s t) ws p q in
    same_without x sheet r.0 b c r.1 r.2
same_refusal x sheet ws (TooManyOps m) (NoSchedule c) p q some =
    let r = common (IsSchedulable x sheet) (IsRefusedAs x sheet (TooManyOps m)) (IsRefusedAs x sheet (NoSchedule c)) (λ w s t. not_large x sheet w s t.0) (λ w s t. not_without x sheet w c s t) ws p q in
    large_or_without x sheet r.0 c r.1.0 r.2
same_refusal x sheet ws (NoSchedule b) (TooManyOps n) p q some =
    let r = common (IsSchedulable x sheet) (IsRefusedAs x sheet (NoSchedule b)) (IsRefusedAs x sheet (TooManyOps n)) (λ w s t. not_without x sheet w b s t) (λ w s t. not_large x sheet w s t.0) ws p q in
    large_or_without x sheet r.0 b r.2.0 r.1
same_refusal x sheet ws (TooManyOps m) Memory p q some = tt
same_refusal x sheet ws (NoSchedule b) Memory p q some = tt
same_refusal x sheet ws Memory f p q some = absurd (some refl)

-- ---- what stands refuses none
each_can_be : (d : Design) → Stands d → (k : ℕ) (w : Which) → slice_get (behaviours_of (view_extension d.extension)) k ≡ Some w → IsSchedulable (view_extension d.extension) d.sheet w
each_can_be d h k w e =
    let x = view_extension d.extension in
    let few = slice_get_within (behaviours_of x) k w e in
    let plans = h.built.plan_count in
    let nets = h.built.net_count in
    let p = some_at d.plans k (omega (arith, few, plans)) in
    let n = some_at d.nets k (omega (arith, few, nets)) in
    can_be x d.sheet w p.0 n.0 h.sheet (h.built.each k w p.0 n.0 e p.1 n.1)

stands_alone : (d : Design) → Stands d → (e : ScheduleErr) → e ≢ Memory → IsFirstRefused (view_extension d.extension) d.sheet (behaviours_of (view_extension d.extension)) e → ⊥
stands_alone d h (TooManyOps m) some r =
    let x = view_extension d.extension in
    none_first (IsSchedulable x d.sheet) (IsRefusedAs x d.sheet (TooManyOps m)) (λ w s t. not_large x d.sheet w s t.0) (behaviours_of x) (each_can_be d h) r
stands_alone d h (NoSchedule b) some r =
    let x = view_extension d.extension in
    none_first (IsSchedulable x d.sheet) (IsRefusedAs x d.sheet (NoSchedule b)) (λ w s t. not_without x d.sheet w b s t) (behaviours_of x) (each_can_be d h) r
stands_alone d h Memory some r = absurd (some refl)

-- ---- the answer
pub answers : (x : ExtensionTree) (sheet : Sheet) (r : Result Design ScheduleErr) → IfOk r Stands → IfOk r (λ d. view_extension d.extension ≡ x) → IfOk r (λ d. d.sheet ≡ sheet)
    → IfErr r (IsFirstRefused x sheet (behaviours_of x)) → (e : ScheduleErr) → IsFirstRefused x sheet (behaviours_of x) e → IsAnswerTo e r
answers x sheet r stands extension is refused Memory due = tt
answers x sheet (Ok d) stands extension is refused (TooManyOps m) due =
    stands_alone d stands (TooManyOps m) (λ q. cc)
    (subst (λ (s : Sheet). IsFirstRefused (view_extension d.extension) s (behaviours_of (view_extension d.extension)) (TooManyOps m)) (sym is)
    (subst (λ (y : ExtensionTree). IsFirstRefused y sheet (behaviours_of y) (TooManyOps m)) (sym extension) due))
answers x sheet (Ok d) stands extension is refused (NoSchedule b) due =
    stands_alone d stands (NoSchedule b) (λ q. cc)
    (subst (λ (s : Sheet). IsFirstRefused (view_extension d.extension) s (behaviours_of (view_extension d.extension)) (NoSchedule b)) (sym is)
    (subst (λ (y : ExtensionTree). IsFirstRefused y sheet (behaviours_of y) (NoSchedule b)) (sym extension) due))
answers x sheet (Err f) stands extension is refused (TooManyOps m) due = same_refusal x sheet (behaviours_of x) (TooManyOps m) f due refused (λ q. cc)
answers x sheet (Err f) stands extension is refused (NoSchedule b) due = same_refusal x sheet (behaviours_of x) (NoSchedule b) f due refused (λ q. cc)
