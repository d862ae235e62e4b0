-- The law of lives, of the rows of machines.
use Rattle.rv_machine.proofs.ReadsClear.{IsGoing, going_of}
use Rattle.std.proofs.Common.{◌≡◌, ℕ, suc, ◌-◌, ◌<◌, ◌^◌, List, [], ◌∷◌, Option, Some, None, refl, sym, ap, ◌∙◌, inl, inr}
use Rattle.ix_behaviour.specs.Laws.{FewLaw}
use Rattle.ix_depends.specs.Laws.{TimesLaw}
use Rattle.ix_behaviour.specs.declared.which.Which.{Which}
use Rattle.ix_behaviour.specs.Behaviours.{targets_at}
use Rattle.ix_mean.specs.Typing.{AreInputs}
use Rattle.ix_standing.specs.Served.{ServedLaw}
use Rattle.rv_seq.specs.Memory.{peeked}
use Rattle.rv_isa.specs.Fields.{rs1_of, rs2_of}
use Rattle.rv_seq.specs.declared.commit.Commit.{Commit}
use Rattle.rv_seq.specs.States.{state_at, inputs_at}
use Rattle.rv_machine.proofs.LivesBehaviours.{are_inputs}
use Rattle.rv_machine.proofs.LivesFrame.{framed}
use Rattle.rv_machine.proofs.LivesRows.{word_below}
use Rattle.rv_machine.proofs.LivesPromise.{promised_rows}
use Rattle.rv_trace.specs.declared.row.Cell.{Cell}
use Rattle.rv_trace.specs.declared.row.Row.{Row}
use Rattle.rv_lawful.specs.Entering.{places}
use Rattle.rv_lawful.specs.Settings as Lawful
use Rattle.rv_lawful.specs.Sight.{asked}
use Rattle.rv_engine.specs.Settings.{Setting, Machine, shape_of, tree_of, setting}
use Rattle.rv_engine.specs.Rows.{IsRowOf}
use Rattle.rv_machine.specs.Owing.{judged}
use Rattle.rv_machine.specs.Placed.{at_places, IsReady, Inv, run}
use Rattle.rv_machine.specs.Running.{AreRows, machine_at}
use Rattle.rv_machine.proofs.Flushing as F
use Rattle.rv_machine.proofs.Recorded.{shown_word}
use Rattle.rv_machine.proofs.Retiring as R
use Rattle.rv_machine.proofs.Worded.{left_here}
use Rattle.rv_machine.proofs.Carried.{row_at}
use Rattle.rv_machine.proofs.Promised.{Sights, ready_of, known}
use Rattle.rv_machine.specs.Lives.{LivesLaw, ReadsLaw, PromiseLaw}
use Rattle.rv_machine.proofs.LivesUnits.{RetiresWords}
use Rattle.rv_machine.proofs.LivesLaw.{has_life}

serial_of : Option (ℕ × Commit) → ℕ
serial_of None = 0
serial_of (Some x) = x.0

word_of : Option (ℕ × Commit) → ℕ
word_of None = 0
word_of (Some x) = x.1.word

-- what a row retires has the word of its cell
word_kept : (k : Setting) (ready : IsReady k) (earlier : List Row) (m : Machine) (row : Row) (inv : Inv k earlier m) (is : IsRowOf k m row) →
    (s : ℕ) (c : Commit) (n : ℕ) (b : Cell) → row.retired ≡ Some (s, c) → suc n ≡ (judged k).shape.stages → Lawful.Stands (judged k) row n b → b.serial ≡ s → c.word ≡ b.word
unfolding serial_of word_of
word_kept k ready earlier m row inv is s c n b e last stands serial = elim (R.goes_out k ready earlier m row inv is) [
  | inl x ↦ cc (x.1, e)
  | inr y ↦
      let token = y.0.token in
      let retired = sym e ∙ y.0.is_retired in
      let same : token.cell.serial ≡ s = sym (ap serial_of retired) in
      let code = F.words_now k ready earlier m row inv is s b.word (inl (n, b, stands, serial, refl)) ((shape_of k).stages - 1) token (left_here k ready earlier m row inv is token y.0.is_left) same in
      ap word_of retired ∙ shown_word (asked k.design token.cell.word) y.0.commit ∙ y.0.word ∙ code
]

retires_words : (k : Setting) (ready : (ps : List ℕ) → IsReady (at_places k ps)) → IsGoing k → (ps : List ℕ) (rows : List Row) → AreRows k rows → RetiresWords (judged (at_places k ps)) rows
unfolding machine_at
retires_words k ready goes ps [] are = tt
retires_words k ready goes ps (row ∷ earlier) are = (
  word_kept (at_places k (places earlier)) (ready (places earlier)) earlier (machine_at k earlier) row (goes earlier are.2 are.1) (row_at k (places earlier) (machine_at k earlier) row are.0),
  retires_words k ready goes ps earlier are.2,
)

pub lives_law_of : Sights → FewLaw → TimesLaw → LivesLaw
lives_law_of sights few times d image waits lines n p net row earlier cycles h s word t watched low high =
    let k = setting d image waits lines in
    let ready = ready_of sights d image waits lines h.runnable in
    let rows : List Row = row ∷ earlier in
    has_life few times d image waits lines (places earlier) h.runnable.stands n p net h.plan h.net_is row earlier cycles h.driven (framed d image waits lines (places earlier) rows (known k ready rows h.are_rows).headline.lawful)
    (retires_words k ready (going_of k ready) (places earlier) rows h.are_rows) s word t watched low high

-- ---- what is promised

-- what a word sees of a state of the run fits the types of each behaviour
seen_of : (k : Setting) → IsReady k → (word p : ℕ) (w : Which) → word < 2 ^ 32 → AreInputs (targets_at (tree_of k) w) (inputs_at word (run k p))
seen_of k ready word p w small =
    let s = run k p in
    are_inputs (tree_of k) w (state_at word s) (peeked s.mem) (ready.wide p) small (ready.words p (rs1_of word)) (ready.words p (rs2_of word)) (ready.pcs p)

-- where inputs carry the run's values, the outputs of all modules show them
pub promise_of : Sights → FewLaw → TimesLaw → ServedLaw → ReadsLaw → PromiseLaw
promise_of sights few times served reads d image waits lines rows runs runnable are driven n p net cycles plan net_is cycles_are =
    let k = setting d image waits lines in
    let ready = ready_of sights d image waits lines runnable in
    promised_rows (lives_law_of sights few times) reads served d image waits lines (λ ps. seen_of (at_places k ps) (ready ps)) runnable n p net plan net_is rows cycles are (driven.each n p net cycles plan net_is cycles_are)
    (λ ps. word_below (judged (at_places k ps)) rows runnable.words (framed d image waits lines ps rows (known k ready rows are).headline.lawful))
