-- Texts that pass one behind the other through a buffer to a sink.
use Rattle.std.proofs.Common.{◌≡◌, ◌∙◌, sym, ap, subst, ℕ, List, [], ◌++◌, append_assoc, Option, Result, Ok, Err}
use Rattle.std.specs.Prelude.{OnOk, OnErr}
use Rattle.std.proofs.lemmas.List.{append-nil}
use Rattle.ix_io.specs.Sink.{Appends, AppendsFront}
use Rattle.ix_io.proofs.Appended.{Appends_none, Appends_more, AppendsFront_behind, AppendsFront_of_more}
use Rattle.ix_dump.specs.Parts.{Passes}

-- a text goes to the buffer
pub passes_put : (now : Option (List ℕ)) (out out' text : List ℕ) → out' ≡ out ++ text → Passes now now out out' text
passes_put now out out' text e = record { sent = []; appends = Appends_none now; parts = e }

pub passes_empty : (now : Option (List ℕ)) (out text : List ℕ) → text ≡ [] → Passes now now out out text
passes_empty now out text e = passes_put now out out text (sym (ap (λ l. out ++ l) e ∙ append-nil out))

-- nothing happens
pub passes_none : (now : Option (List ℕ)) (out : List ℕ) → Passes now now out out []
passes_none now out = passes_put now out out [] (sym (append-nil out))

-- what waits is sent
pub passes_sent : (now now' : Option (List ℕ)) (out out' : List ℕ) → Appends now now' out → out' ≡ [] → Passes now now' out out' []
passes_sent now now' out out' a e = record { sent = out; appends = a; parts = ap (λ l. out ++ l) e }

-- one text behind another
pub passes_more : (a b c : Option (List ℕ)) (xs ys zs s t : List ℕ) → Passes a b xs ys s → Passes b c ys zs t → Passes a c xs zs (s ++ t)
passes_more a b c xs ys zs s t p q = record {
  sent = p.sent ++ q.sent;
  appends = Appends_more a b c p.sent q.sent p.appends q.appends;
  parts = append_assoc p.sent q.sent zs
      ∙ ap (λ l. p.sent ++ l) q.parts
      ∙ sym (append_assoc p.sent ys t)
      ∙ ap (λ l. l ++ t) p.parts
      ∙ append_assoc xs s t;
}

-- a text goes to the buffer behind what was done
pub passes_behind : (a b : Option (List ℕ)) (xs ys zs text : List ℕ) → Passes a b xs ys [] → zs ≡ ys ++ text → Passes a b xs zs text
passes_behind a b xs ys zs text p e = passes_more a b b xs ys zs [] text p (passes_put b ys zs text e)

-- a text, and a front of what waits and of another
pub breaks_more : (a b c : Option (List ℕ)) (xs ys s t : List ℕ) → Passes a b xs ys s → AppendsFront b c (ys ++ t) → AppendsFront a c (xs ++ (s ++ t))
breaks_more a b c xs ys s t p f =
    subst (λ l. AppendsFront a c l) (sym (append_assoc p.sent ys t) ∙ ap (λ l. l ++ t) p.parts ∙ append_assoc xs s t)
    (AppendsFront_behind a b c p.sent (ys ++ t) p.appends f)

-- a front of what waits and of a text is one of what waits and of more
pub breaks_of_more : (a c : Option (List ℕ)) (xs s t : List ℕ) → AppendsFront a c (xs ++ s) → AppendsFront a c (xs ++ (s ++ t))
breaks_of_more a c xs s t f = subst (λ l. AppendsFront a c l) (append_assoc xs s t) (AppendsFront_of_more a c (xs ++ s) t f)

-- the last of it is sent
pub passes_last : (a b c : Option (List ℕ)) (xs ys t : List ℕ) → Passes a b xs ys t → Appends b c ys → Appends a c (xs ++ t)
passes_last a b c xs ys t p q = subst (λ l. Appends a c l) p.parts (Appends_more a b c p.sent ys p.appends q)

pub breaks_last : (a b c : Option (List ℕ)) (xs ys t : List ℕ) → Passes a b xs ys t → AppendsFront b c ys → AppendsFront a c (xs ++ t)
breaks_last a b c xs ys t p f = subst (λ l. AppendsFront a c l) p.parts (AppendsFront_behind a b c p.sent ys p.appends f)

-- ---- a text in parts
-- of a whole text a part has passed, and the rest is still to come
pub record PartOf (before now : Option (List ℕ)) (waited waits rest whole : List ℕ) : Type 0 where
  pub done : List ℕ
  pub passes : Passes before now waited waits done
  pub parts : done ++ rest ≡ whole

pub part_start : {now : Option (List ℕ)} {out rest whole : List ℕ} → rest ≡ whole → PartOf now now out out rest whole
part_start {now} {out} e = record { done = []; passes = passes_none now out; parts = e }

pub part_step : {a b c : Option (List ℕ)} {xs ys zs s rest rest' whole : List ℕ} → PartOf a b xs ys rest whole → rest ≡ s ++ rest' → Passes b c ys zs s → PartOf a c xs zs rest' whole
part_step {a} {b} {c} {xs} {ys} {zs} {s} {rest} {rest'} {whole} p e q = record {
  done = p.done ++ s;
  passes = passes_more a b c xs ys zs p.done s p.passes q;
  parts = append_assoc p.done s rest' ∙ ap (λ l. p.done ++ l) (sym e) ∙ p.parts;
}

pub part_breaks : {a b c : Option (List ℕ)} {xs ys rest whole : List ℕ} (s rest' : List ℕ) → PartOf a b xs ys rest whole → rest ≡ s ++ rest' → AppendsFront b c (ys ++ s) → AppendsFront a c (xs ++ whole)
part_breaks {a} {b} {c} {xs} {ys} {rest} {whole} s rest' p e f =
    subst (λ l. AppendsFront a c (xs ++ l)) (ap (λ l. p.done ++ l) (sym e) ∙ p.parts)
    (breaks_more a b c xs ys p.done (s ++ rest') p.passes (breaks_of_more b c ys s rest' f))

pub part_end : {a b : Option (List ℕ)} {xs ys rest whole : List ℕ} → PartOf a b xs ys rest whole → rest ≡ [] → Passes a b xs ys whole
part_end {a} {b} {xs} {ys} {rest} {whole} p e =
    subst (λ l. Passes a b xs ys l) (sym (append-nil p.done) ∙ ap (λ l. p.done ++ l) (sym e) ∙ p.parts) p.passes

-- the call that writes the last part ends well, or fails
pub part_last : {A E : Type 0} {a b : Option (List ℕ)} {xs ys rest whole : List ℕ} (c : Option (List ℕ)) (zs : List ℕ) (r : Result A E) → PartOf a b xs ys rest whole → OnOk r (Passes b c ys zs rest) → OnOk r (Passes a c xs zs whole)
part_last {a} {b} {xs} {ys} {rest} {whole} c zs (Ok x) p q =
    subst (λ l. Passes a c xs zs l) p.parts (passes_more a b c xs ys zs p.done rest p.passes q)
part_last c zs (Err e) p q = tt

pub part_last_breaks : {A E : Type 0} {a b : Option (List ℕ)} {xs ys rest whole : List ℕ} (c : Option (List ℕ)) (r : Result A E) → PartOf a b xs ys rest whole → OnErr r (AppendsFront b c (ys ++ rest)) → OnErr r (AppendsFront a c (xs ++ whole))
part_last_breaks c (Ok x) p q = tt
part_last_breaks {a} {b} {xs} {ys} {rest} {whole} c (Err e) p q =
    subst (λ l. AppendsFront a c (xs ++ l)) p.parts (breaks_more a b c xs ys p.done rest p.passes q)

-- a fact that a failure leaves
pub at_err : {A E P : Type 0} (r : Result A E) → P → OnErr r P
at_err (Ok a) p = tt
at_err (Err e) p = p
