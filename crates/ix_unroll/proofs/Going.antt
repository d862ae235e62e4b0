-- Marks that are met one part after another.
use Rattle.std.proofs.Common.{◌≡◌, ℕ, List, [], ◌++◌, refl, sym, ◌∙◌, subst, append_assoc}
use Rattle.std.proofs.lemmas.List.{append-nil}
use Rattle.ix_tree.specs.Unrolling.{Mark}
use Rattle.ix_unroll.specs.declared.error.UnrollErr.{UnrollErr}
use Rattle.ix_unroll.specs.Telling.{Passes, Refuses}
use Rattle.ix_unroll.proofs.Marks.{passes_nothing, passes_join, refuses_front, refuses_behind}

-- of all marks the rest is left, and what came before it passes
pub record Going (n : ℕ) (all rest : List Mark) (m : ℕ) : Type 0 where
  pub front : List Mark
  pub passes : Passes n front m
  pub whole : all ≡ front ++ rest

pub going_start : (n : ℕ) (all : List Mark) → Going n all all n
going_start n all = record { front = []; passes = passes_nothing n; whole = refl }

pub going_step : {n m k : ℕ} {all : List Mark} (xs rest : List Mark) → Going n all (xs ++ rest) m → Passes m xs k → Going n all rest k
going_step xs rest g p = record { front = g.front ++ xs; passes = passes_join g.passes p; whole = g.whole ∙ sym (append_assoc g.front xs rest) }

pub going_end : {n m : ℕ} {all : List Mark} → Going n all [] m → Passes n all m
going_end {n = n} {m = m} g = let e = g.whole ∙ append-nil g.front in let P : List Mark → Type 0 = λ ms. Passes n ms m in subst P (sym e) g.passes

pub going_refuse : (e : UnrollErr) {n m : ℕ} {all : List Mark} (xs rest : List Mark) → Going n all (xs ++ rest) m → Refuses e m xs → Refuses e n all
going_refuse e {n = n} {m = m} xs rest g h =
    let P : List Mark → Type 0 = λ ms. Refuses e n ms in
    subst P (sym g.whole) (refuses_behind e n m g.front (xs ++ rest) g.passes (refuses_front e m xs rest h))

-- the same marks under another name
pub going_as : {n m : ℕ} {all : List Mark} (rest new : List Mark) → rest ≡ new → Going n all rest m → Going n all new m
going_as {n = n} {m = m} {all = all} rest new e g = let P : List Mark → Type 0 = λ ms. Going n all ms m in subst P e g
