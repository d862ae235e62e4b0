-- Where the event of a row is.
use Rattle.std.proofs.Common.{◌≡◌, ◌∙◌, refl, sym, ap, subst, ℕ, suc, ◌+◌, ◌<◌, ◌≤◌, List, [], ◌∷◌, ◌++◌, length, reverse, Option, Some, None, Bool, true, false, arith}
use Rattle.std.specs.Prelude.{if◌then◌else◌, not, ◌&&◌, ◌==◌, option_map, nat_le}
use Rattle.std.specs.Option.{option_or}
use Rattle.std.proofs.lemmas.Bool.Decides.{nat_tests}
use Rattle.std.proofs.lemmas.Option.{none-some}
use Rattle.rv_harts.specs.declared.event.Event.{Event}
use Rattle.rv_harts.specs.declared.event.Event.TheVariants.{Turned, Stopped, Led}
use Rattle.rv_harts.specs.declared.event.EventAt.{EventAt}
use Rattle.rv_harts.specs.declared.row.Turn.{Turn}
use Rattle.rv_harts.specs.Events.{event_of, event_from, event_here, settles, successor, standing, undone}
use Rattle.rv_harts.specs.Harts.{Fetched}
use Rattle.rv_harts.specs.HartRows.{lost, stages_after, below}
use Rattle.rv_harts.specs.Turns.{turn_of, reading_turn, executing_turn, stop_due}
use Rattle.rv_lawful.specs.Settings.{Setting}
use Rattle.rv_seq.specs.declared.commit.Stop.{Stop}
use Rattle.rv_barrel.proofs.Views.{unsome}

-- what ends at its own stage
abbrev pub ends : Event → Bool
ends (Turned turn at) = true
ends (Stopped stop) = true
ends (Led at) = false

not_at : (a b : ℕ) → a < b → (b == a) ≡ false
not_at a b lt = grind (arith, nat_tests, lt)

no_turn : (k : Setting) (stage : ℕ) (c : Fetched) (a b d : List Fetched) → k.shape.rd ≤ k.shape.ex → k.shape.ex < stage → turn_of k stage c a b d ≡ None
no_turn k stage c a b d le lt =
    let rd : (stage == k.shape.rd) ≡ false = not_at k.shape.rd stage (omega (arith, le, lt)) in
    let ex : (stage == k.shape.ex) ≡ false = not_at k.shape.ex stage lt in
    ap (λ (t : Bool). option_or (if t then reading_turn k c a b else None) (if stage == k.shape.ex then executing_turn k c a b d else None)) rd
    ∙ ap (λ (t : Bool). if t then executing_turn k c a b d else None) ex

-- above EX a cell can only lead elsewhere
abbrev pub led_only : Setting → ℕ → ℕ → Fetched → Option Event
led_only k near stage c = if settles k stage c && not (successor k c == near) then Some (Led (successor k c)) else None

pub above_ex : (k : Setting) (owed kept : List Fetched) (near stage : ℕ) (c : Fetched) (older : List (Option Fetched)) → k.shape.rd ≤ k.shape.ex → k.shape.ex < stage → event_of k owed kept near stage c older ≡ led_only k near stage c
above_ex k owed kept near stage c older le lt =
    ap (λ (t : Option Turn). option_or (option_map (λ (turn : Turn). Turned turn c.at) t) (option_or (if stage == k.shape.ex then option_map (λ (stop : Stop). Stopped stop) (stop_due k c) else None) (led_only k near stage c)))
    (no_turn k stage c (reverse (standing older)) (owed ++ reverse (standing older)) (kept ++ reverse (undone k (suc stage) older)) le lt)
    ∙ ap (λ (t : Bool). option_or (if t then option_map (λ (stop : Stop). Stopped stop) (stop_due k c) else None) (led_only k near stage c)) (not_at k.shape.ex stage lt)

-- where it is, and that it ends only up to EX
pub record IsHere (k : Setting) (stage count : ℕ) (e : EventAt) : Type 0 where
  pub from : stage ≤ e.stage
  pub to : e.stage < stage + count
  pub ending : ends e.event ≡ true → e.stage ≤ k.shape.ex

no_end : (b : Bool) (at : ℕ) (ev : Event) → (if b then Some (Led at) else None) ≡ Some ev → ends ev ≡ true → ⊥
no_end false at ev e h = absurd (none-some _ e)
no_end true at ev e h = false_true (ap ends (unsome (Led at) ev e) ∙ h) where
  Falsely : Bool → Type 0
  Falsely true = ⊥
  Falsely false = Unit

  false_true : false ≡ true → ⊥
  false_true e = subst Falsely e tt

here : (k : Setting) (owed kept : List Fetched) (near stage : ℕ) (c : Fetched) (older : List (Option Fetched)) (e : EventAt) → k.shape.rd ≤ k.shape.ex →
    option_map (event_here stage) (event_of k owed kept near stage c older) ≡ Some e → IsHere k stage (suc (length older)) e
here k owed kept near stage c older e le h = by_event (event_of k owed kept near stage c older) refl h where
  late : (ev : Event) → event_of k owed kept near stage c older ≡ Some ev → ends ev ≡ true → stage ≤ k.shape.ex
  late ev is ending = by_order (nat_le stage k.shape.ex) refl where
    by_order : (b : Bool) → nat_le stage k.shape.ex ≡ b → stage ≤ k.shape.ex
    by_order true t = grind (arith, nat_tests, t)
    by_order false t = absurd (no_end (settles k stage c && not (successor k c == near)) (successor k c) ev (sym (above_ex k owed kept near stage c older le (grind (arith, nat_tests, t))) ∙ is) ending)

  by_event : (o : Option Event) → event_of k owed kept near stage c older ≡ o → option_map (event_here stage) o ≡ Some e → IsHere k stage (suc (length older)) e
  by_event None is h = absurd (none-some _ h)
  by_event (Some ev) is h =
      subst (λ (f : EventAt). IsHere k stage (suc (length older)) f) (unsome (event_here stage ev) e h)
      (record { from = omega arith; to = omega arith; ending = late ev is })

one_on : (k : Setting) (stage count : ℕ) (e : EventAt) → IsHere k (suc stage) count e → IsHere k stage (suc count) e
one_on k stage count e h = record { from = omega (arith, h.from); to = omega (arith, h.to); ending = h.ending }

pub event_here_is : (k : Setting) (owed kept : List Fetched) (near stage : ℕ) (cells : List (Option Fetched)) (e : EventAt) → k.shape.rd ≤ k.shape.ex →
    event_from k owed kept near stage cells ≡ Some e → IsHere k stage (length cells) e
event_here_is k owed kept near stage [] e le h = absurd (none-some _ h)
event_here_is k owed kept near stage (None ∷ older) e le h = one_on k stage (length older) e (event_here_is k owed kept near (suc stage) older e le h)
event_here_is k owed kept near stage (Some c ∷ older) e le h = by_older (event_from k owed kept c.at (suc stage) older) refl h (event_here_is k owed kept c.at (suc stage) older e le) where
  by_older : (o : Option EventAt) → event_from k owed kept c.at (suc stage) older ≡ o → option_or o (option_map (event_here stage) (event_of k owed kept near stage c older)) ≡ Some e
      → (event_from k owed kept c.at (suc stage) older ≡ Some e → IsHere k (suc stage) (length older) e) → IsHere k stage (suc (length older)) e
  by_older None is h rest = here k owed kept near stage c older e le h
  by_older (Some f) is h rest = one_on k stage (length older) e (rest (is ∙ h))

-- how much is lost, where so many stages stand
lost_few : (k : Setting) (n : ℕ) (e : EventAt) → k.shape.ex < n → IsHere k 0 (suc n) e → stages_after e.stage e.event ≤ n
lost_few k n e lt h = by_kind e.event refl where
  by_kind : (ev : Event) → e.event ≡ ev → stages_after e.stage ev ≤ n
  by_kind (Turned turn at) is = let le = h.ending (ap ends is) in omega (arith, le, lt)
  by_kind (Stopped stop) is = let le = h.ending (ap ends is) in omega (arith, le, lt)
  by_kind (Led at) is = let to = h.to in omega (arith, to)

pub lost_is : (k : Setting) (owed kept : List Fetched) (near n : ℕ) (cells : List (Option Fetched)) → k.shape.rd ≤ k.shape.ex → k.shape.ex < n → length cells ≡ suc n → lost (event_from k owed kept near 0 cells) ≤ n
lost_is k owed kept near n cells le lt long = by_event (event_from k owed kept near 0 cells) refl where
  by_event : (o : Option EventAt) → event_from k owed kept near 0 cells ≡ o → lost o ≤ n
  by_event None is = omega arith
  by_event (Some e) is = lost_few k n e lt (subst (λ (m : ℕ). IsHere k 0 m e) long (event_here_is k owed kept near 0 cells e le is))

pub below_is : (k : Setting) (owed kept : List Fetched) (near n : ℕ) (cells : List (Option Fetched)) → k.shape.rd ≤ k.shape.ex → length cells ≡ suc n → below (event_from k owed kept near 0 cells) ≤ n
below_is k owed kept near n cells le long = by_event (event_from k owed kept near 0 cells) refl where
  by_event : (o : Option EventAt) → event_from k owed kept near 0 cells ≡ o → below o ≤ n
  by_event None is = omega arith
  by_event (Some e) is = let h = subst (λ (m : ℕ). IsHere k 0 m e) long (event_here_is k owed kept near 0 cells e le is) in let to = h.to in omega (arith, to)
