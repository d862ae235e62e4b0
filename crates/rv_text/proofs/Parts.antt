-- A text that is told in parts: steps of the telling, and the lines to come.
use Rattle.std.proofs.Common.{◌≡◌, ◌∙◌, refl, sym, ap, subst, ℕ, zero, suc, ◌+◌, ◌-◌, ◌<◌, List, [], ◌++◌, append_assoc, length, Option, Bool, true, false, not, Result, Ok, Err, arith}
use Rattle.std.specs.Prelude.{OnOk, OnErr}
use Rattle.std.proofs.lemmas.List.{append-nil}
use Rattle.ix_io.specs.Sink.{Appends, AppendsFront}
use Rattle.ix_io.proofs.Appended.{Appends_none, Appends_more, AppendsFront_behind, AppendsFront_of_more}
use Rattle.ix_extension.specs.Extensions.{ExtensionTree}
use Rattle.ix_plan.specs.declared.design.Target.{Target}
use Rattle.rv_seq.specs.declared.arch.Arch.{Arch}
use Rattle.rv_seq.specs.declared.commit.Commit.{Commit}
use Rattle.rv_seq.specs.declared.commit.Stop.{Stop}
use Rattle.rv_seq.specs.declared.answer.StepAnswer.{StepAnswer}
use Rattle.rv_seq.specs.declared.answer.StepAnswer.TheVariants.{Done, Stopped}
use Rattle.rv_seq.specs.States.{first}
use Rattle.rv_seq.specs.Steps.{step, after}
use Rattle.rv_text.specs.RunText.{step_line, stop_line, head_text, memory_word, memory_lines, state_text, lines_after, lines_from, run_text}
use Rattle.rv_text.specs.Telling.{Told, Carries, Breaks}

-- nothing happened
pub carries_none : (now : Option (List ℕ)) (left rest : List ℕ) → Carries now left rest now left rest
carries_none now left rest = λ before whole t. t

-- one telling behind another
pub carries_more : (a b c : Option (List ℕ)) (xs ys zs rest mid last : List ℕ) → Carries a xs rest b ys mid → Carries b ys mid c zs last → Carries a xs rest c zs last
carries_more a b c xs ys zs rest mid last f g = λ before whole t. g before whole (f before whole t)

pub carries_breaks : (a b c : Option (List ℕ)) (xs ys rest mid : List ℕ) → Carries a xs rest b ys mid → Breaks b ys mid c → Breaks a xs rest c
carries_breaks a b c xs ys rest mid f g = λ before whole t. g before whole (f before whole t)

-- a part of the rest goes to the buffer
pub carries_put : (now : Option (List ℕ)) (left rest left' rest' : List ℕ) → left ++ rest ≡ left' ++ rest' → Carries now left rest now left' rest'
carries_put now left rest left' rest' e =
    λ before whole t. record { sent = t.sent; appends = t.appends; parts = ap (λ l. t.sent ++ l) (sym e) ∙ t.parts }

-- the buffer is sent
pub carries_flush : (now now' : Option (List ℕ)) (left left' rest : List ℕ) → Appends now now' left → left' ≡ [] → Carries now left rest now' left' rest
carries_flush now now' left left' rest a e =
    λ before whole t. record {
      sent = t.sent ++ left;
      appends = Appends_more before now now' t.sent left t.appends a;
      parts = ap (λ l. t.sent ++ left ++ (l ++ rest)) e ∙ append_assoc t.sent left rest ∙ t.parts;
    }

-- a front of the buffer is sent
pub breaks_flush : (now now' : Option (List ℕ)) (left rest : List ℕ) → AppendsFront now now' left → Breaks now left rest now'
breaks_flush now now' left rest f =
    λ before whole t.
    subst (λ l. AppendsFront before now' l) t.parts (AppendsFront_behind before now now' t.sent (left ++ rest) t.appends (AppendsFront_of_more now now' left rest f))

-- from the first byte on
pub told_first : (now : Option (List ℕ)) (left rest : List ℕ) → left ≡ [] → Told now now left rest rest
told_first now left rest e = record { sent = []; appends = Appends_none now; parts = ap (λ l. l ++ rest) e }

-- to the last
pub told_last : (before now now' : Option (List ℕ)) (left whole : List ℕ) → Told before now left [] whole → Appends now now' left → Appends before now' whole
told_last before now now' left whole t a =
    subst (λ l. Appends before now' l) (ap (λ l. t.sent ++ l) (sym (append-nil left)) ∙ t.parts) (Appends_more before now now' t.sent left t.appends a)

pub told_last_front : (before now now' : Option (List ℕ)) (left whole : List ℕ) → Told before now left [] whole → AppendsFront now now' left → AppendsFront before now' whole
told_last_front before now now' left whole t f =
    subst (λ l. AppendsFront before now' l) (ap (λ l. t.sent ++ l) (sym (append-nil left)) ∙ t.parts) (AppendsFront_behind before now now' t.sent left t.appends f)

-- the next word of the memory
pub next_word : (memory : List ℕ) (count k : ℕ) → k < count → memory_lines memory (count - k) k ≡ memory_word memory k ++ memory_lines memory (count - (k + 1)) (k + 1)
unfolding memory_lines
next_word memory count k lt =
    let e : count - k ≡ suc (count - (k + 1)) = omega (arith, lt) in
    let f : suc k ≡ k + 1 = omega arith in
    ap (λ n. memory_lines memory n k) e ∙ ap (λ j. memory_word memory k ++ memory_lines memory (count - (k + 1)) j) f

pub no_word : (memory : List ℕ) (n k : ℕ) → n ≡ 0 → memory_lines memory n k ≡ []
unfolding memory_lines
no_word memory n k e = ap (λ m. memory_lines memory m k) e

-- the next line of the memory goes to the buffer
pub put_word : (memory out out' : List ℕ) (count k : ℕ) → k < count → out' ≡ out ++ memory_word memory k
    → out ++ memory_lines memory (count - k) k ≡ out' ++ memory_lines memory (count - (k + 1)) (k + 1)
put_word memory out out' count k lt e =
    ap (λ l. out ++ l) (next_word memory count k lt)
    ∙ sym (append_assoc out (memory_word memory k) (memory_lines memory (count - (k + 1)) (k + 1)))
    ∙ ap (λ l. l ++ memory_lines memory (count - (k + 1)) (k + 1)) (sym e)

-- the same before any rest
pub before_rest : (out a out' b rest : List ℕ) → out ++ a ≡ out' ++ b → out ++ (a ++ rest) ≡ out' ++ (b ++ rest)
before_rest out a out' b rest e = sym (append_assoc out a rest) ∙ ap (λ l. l ++ rest) e ∙ append_assoc out' b rest

-- ---- steps
-- a step goes on
pub goes : (x : ExtensionTree) (image : List ℕ) (n number : ℕ) (s t : Arch) (c : Commit) (out out' : List ℕ) → step x image s ≡ Done c → out' ≡ out ++ step_line number c → t ≡ after x s (Done c)
    → out ++ lines_from x image (suc n) number s ≡ out' ++ lines_from x image n (suc number) t
unfolding lines_from
goes x image n number s t c out out' e f g =
    ap (λ (a : StepAnswer). out ++ lines_after x number s (λ z. lines_from x image n (suc number) z) a) e
    ∙ sym (append_assoc out (step_line number c) (lines_from x image n (suc number) (after x s (Done c))))
    ∙ ap (λ l. l ++ lines_from x image n (suc number) (after x s (Done c))) (sym f)
    ∙ ap (λ (z : Arch). out' ++ lines_from x image n (suc number) z) (sym g)

-- a step stops
pub stops : (x : ExtensionTree) (image : List ℕ) (n number : ℕ) (s t : Arch) (stop : Stop) (out out' : List ℕ) → step x image s ≡ Stopped stop → out' ≡ out ++ stop_line stop → t ≡ s
    → out ++ lines_from x image (suc n) number s ≡ out' ++ state_text x [] t
unfolding lines_from
stops x image n number s t stop out out' e f g =
    ap (λ (a : StepAnswer). out ++ lines_after x number s (λ z. lines_from x image n (suc number) z) a) e
    ∙ sym (append_assoc out (stop_line stop) (state_text x [] s))
    ∙ ap (λ l. l ++ state_text x [] s) (sym f)
    ∙ ap (λ (z : Arch). out' ++ state_text x [] z) (sym g)

-- no step is left
pub no_lines : (x : ExtensionTree) (image : List ℕ) (n number : ℕ) (s : Arch) → n ≡ 0 → lines_from x image n number s ≡ state_text x [] s
unfolding lines_from
no_lines x image n number s e = ap (λ m. lines_from x image m number s) e

pub state_is : (x : ExtensionTree) (outstanding : List (ℕ × Target)) (s : Arch) (registers : ℕ) → length x.registers ≡ registers
    → state_text x outstanding s ≡ head_text registers outstanding s ++ (memory_lines s.mem 262144 0 ++ [])
unfolding state_text
state_is x outstanding s registers e =
    ap (λ n. head_text n outstanding s ++ memory_lines s.mem 262144 0) e
    ∙ ap (λ l. head_text registers outstanding s ++ l) (sym (append-nil (memory_lines s.mem 262144 0)))

pub run_is : (x : ExtensionTree) (image : List ℕ) (steps : ℕ) (s : Arch) → s ≡ first x → lines_from x image steps 0 s ≡ run_text x image steps
unfolding run_text
run_is x image steps s e = ap (λ (z : Arch). lines_from x image steps 0 z) e

-- ---- results and tests
pub at_ok : {A E P Q : Type 0} (r : Result A E) → (P → Q) → OnOk r P → OnOk r Q
at_ok (Ok a) f p = f p
at_ok (Err e) f p = tt

pub at_both : {A E P Q R : Type 0} (r : Result A E) → (P → Q → R) → OnOk r P → OnOk r Q → OnOk r R
at_both (Ok a) f p q = f p q
at_both (Err e) f p q = tt

pub at_err : {A E P Q : Type 0} (r : Result A E) → (P → Q) → OnErr r P → OnErr r Q
at_err (Ok a) f p = tt
at_err (Err e) f p = f p
