-- What an instruction does by which younger ones are flushed, test by test.
use Rattle.std.proofs.Common.{◌≡◌, ◌∙◌, refl, sym, ap, subst, ℕ, suc, ◌+◌, ◌≤◌, List, [], ◌∷◌, ◌++◌, length, get_or, Option, Some, None, arith}
use Rattle.std.specs.Prelude.{reverse, option_map, if◌then◌else◌, ◌==◌}
use Rattle.std.specs.Option.{option_or}
use Rattle.std.proofs.lemmas.Option.{none-some}
use Rattle.rv_harts.specs.declared.event.Event.{Event}
use Rattle.rv_harts.specs.declared.event.Event.TheVariants.{Turned}
use Rattle.rv_harts.specs.declared.event.EventAt.{EventAt}
use Rattle.rv_harts.specs.declared.row.Turn.{Turn}
use Rattle.rv_harts.specs.Events.{standing, undone, event_of, event_from, event_here}
use Rattle.rv_harts.specs.Harts.{Fetched}
use Rattle.rv_harts.specs.Turns.{stop_due, turn_of}
use Rattle.rv_lawful.specs.Settings.{Setting}
use Rattle.rv_barrel.specs.declared.cell.InFlight.{InFlight}
use Rattle.rv_barrel.specs.Cells.{Slots, count, fetched_at, fetched_of, AreAsked}
use Rattle.rv_barrel.specs.Turning.{IsTriedAt, AreTried, led_in, stopped_so}
use Rattle.rv_barrel.proofs.Olders.{rest_is, rest_of}
use Rattle.rv_barrel.proofs.Views.{unsome}

abbrev pub turned_at : ℕ → Turn → Event
turned_at at turn = Turned turn at

abbrev pub turn_here : Setting → List Fetched → List Fetched → ℕ → Fetched → List (Option Fetched) → Option Turn
turn_here k owed kept stage c older = turn_of k stage c (reverse (standing older)) (owed ++ reverse (standing older)) (kept ++ reverse (undone k (suc stage) older))

abbrev pub stop_here : Setting → ℕ → Fetched → Option Event
stop_here k stage c = if stage == k.shape.ex then option_map stopped_so (stop_due k c) else None

pub event_is : (k : Setting) (owed kept : List Fetched) (near stage at : ℕ) (c : Fetched) (older : List (Option Fetched)) (t : Option Turn) (s l : Option Event) → c.at ≡ at → t ≡ turn_here k owed kept stage c older →
    s ≡ stop_here k stage c → l ≡ led_in k near stage c → option_or (option_map (turned_at at) t) (option_or s l) ≡ event_of k owed kept near stage c older
event_is k owed kept near stage at c older t s l a e f g =
    ap (λ (n : ℕ). option_or (option_map (turned_at n) t) (option_or s l)) (sym a)
    ∙ ap (λ (o : Option Turn). option_or (option_map (turned_at c.at) o) (option_or s l)) e
    ∙ ap (λ (o : Option Event). option_or (option_map (turned_at c.at) (turn_here k owed kept stage c older)) (option_or o l)) f
    ∙ ap (λ (o : Option Event). option_or (option_map (turned_at c.at) (turn_here k owed kept stage c older)) (option_or (stop_here k stage c) o)) g

pub event_turned : (at : ℕ) {t : Option Turn} {turn : Turn} (s l : Option Event) → t ≡ Some turn → option_or (option_map (turned_at at) t) (option_or s l) ≡ Some (Turned turn at)
event_turned at s l e = ap (λ (o : Option Turn). option_or (option_map (turned_at at) o) (option_or s l)) e

pub event_led : (at : ℕ) {t : Option Turn} {s : Option Event} (l : Option Event) → t ≡ None → s ≡ None → option_or (option_map (turned_at at) t) (option_or s l) ≡ l
event_led at {t} {s} l e f = ap (λ (o : Option Turn). option_or (option_map (turned_at at) o) (option_or s l)) e ∙ ap (λ (o : Option Event). option_or o l) f

pub event_stopped : (at : ℕ) {t : Option Turn} (s l : Option Event) → t ≡ None → (s ≡ None → ⊥) → option_or (option_map (turned_at at) t) (option_or s l) ≡ s
event_stopped at {t} s l e some = ap (λ (o : Option Turn). option_or (option_map (turned_at at) o) (option_or s l)) e ∙ the_first s l some where
  the_first : (s l : Option Event) → (s ≡ None → ⊥) → option_or s l ≡ s
  the_first None l some = absurd (some refl)
  the_first (Some a) l some = refl

-- the first of these, and the others
pub event_slot : (k : Setting) (owed kept : List Fetched) (near q stage : ℕ) (s : Slots) (slot : Option InFlight) (one : InFlight) → 1 ≤ length s → slot ≡ get_or s 0 slot → slot ≡ Some one →
    event_from k owed kept near stage (fetched_of q s)
    ≡ option_or (event_from k owed kept one.at (stage + 1) (fetched_of q (rest_of s))) (option_map (event_here stage) (event_of k owed kept near stage (fetched_at (q + count (rest_of s)) one) (fetched_of q (rest_of s))))
event_slot k owed kept near q stage [] slot one le e some = absurd (omega (arith, le))
event_slot k owed kept near q stage (s ∷ older) slot one le e some =
    let up : suc stage ≡ stage + 1 = omega arith in
    ap (λ (t : Option InFlight). event_from k owed kept near stage (fetched_of q (t ∷ older))) (sym e ∙ some)
    ∙ ap (λ (n : ℕ). option_or (event_from k owed kept one.at n (fetched_of q older)) (option_map (event_here stage) (event_of k owed kept near stage (fetched_at (q + count older) one) (fetched_of q older)))) up
    ∙ ap (λ (o : Slots). option_or (event_from k owed kept one.at (stage + 1) (fetched_of q o)) (option_map (event_here stage) (event_of k owed kept near stage (fetched_at (q + count o) one) (fetched_of q o)))) (sym (rest_is s older))

pub rest_tried : (k : Setting) (from q stage : ℕ) (s : Slots) → AreTried k from q stage s → AreTried k from q (stage + 1) (rest_of s)
rest_tried k from q stage [] h = tt
rest_tried k from q stage (s ∷ older) h =
    let up : suc stage ≡ stage + 1 = omega arith in
    subst (λ (n : ℕ). AreTried k from q n (rest_of (s ∷ older))) up (subst (λ (o : Slots). AreTried k from q (suc stage) o) (sym (rest_is s older)) (behind s h)) where
      behind : (s : Option InFlight) → AreTried k from q stage (s ∷ older) → AreTried k from q (suc stage) older
      behind None h = h
      behind (Some c) h = h.1

pub slot_tried_first : (k : Setting) (from q stage : ℕ) (s : Slots) (slot : Option InFlight) (one : InFlight) → 1 ≤ length s → slot ≡ get_or s 0 slot → slot ≡ Some one → AreTried k from q stage s →
    from ≤ stage → IsTriedAt k (q + count (rest_of s)) one
slot_tried_first k from q stage [] slot one le e some h = absurd (omega (arith, le))
slot_tried_first k from q stage (None ∷ older) slot one le e some h = absurd (none-some one (sym e ∙ some))
slot_tried_first k from q stage (Some c ∷ older) slot one le e some h = λ from_here.
    let same : c ≡ one = unsome c one (sym e ∙ some) in
    subst (λ (o : Slots). IsTriedAt k (q + count o) one) (sym (rest_is (Some c) older)) (subst (λ (d : InFlight). IsTriedAt k (q + count older) d) same (h.0 from_here))

pub slot_asked : (k : Setting) (s : Slots) (slot : Option InFlight) (one : InFlight) → 1 ≤ length s → slot ≡ get_or s 0 slot → slot ≡ Some one → AreAsked k s → one.asks ≡ k.asks one.word
slot_asked k [] slot one le e some h = absurd (omega (arith, le))
slot_asked k (None ∷ older) slot one le e some h = absurd (none-some one (sym e ∙ some))
slot_asked k (Some c ∷ older) slot one le e some h = subst (λ (d : InFlight). d.asks ≡ k.asks d.word) (unsome c one (sym e ∙ some)) h.0

pub at_second : (one other a b : Option EventAt) → one ≡ a → one ≡ None → other ≡ b → other ≡ option_or a b
at_second one other a b e none f = f ∙ sym (ap (λ (o : Option EventAt). option_or o b) (sym e ∙ none))

pub at_first : (one a b : Option EventAt) → one ≡ a → (one ≡ None → ⊥) → one ≡ option_or a b
at_first one None b e some = absurd (some e)
at_first one (Some v) b e some = e
