-- Texts among texts, and the rule for names.
use Rattle.std.proofs.Common.{◌≡◌, ◌↔◌, ◌||◌, ℕ, List, Bool, true, false, not, IsTrue, All, Any, Contains, subst, refl}
use Rattle.std.specs.List.{list_any}
use Rattle.std.specs.Str.{bytes_eq}
use Rattle.std.proofs.lemmas.Bool.{false≢true}
use Rattle.std.proofs.lemmas.List.Folds.{Any-from_list_any, list_any-from_Any}
use Rattle.std.proofs.lemmas.Slice.Eq.{bytes_eq-Decides}
use Rattle.ix_net.specs.Name.{IsName, StartsWithLetter, is_letter, is_mark, keywords}

-- a text equals one of a list exactly where the list contains it
pub list_any-bytes_eq : (ks : List (List ℕ)) (t : List ℕ) (b : Bool) → b ≡ list_any (λ k. bytes_eq k t) ks → (b ≡ true) ↔ Contains ks t
list_any-bytes_eq ks t b e = (
  λ h. (let a : Any (λ k. bytes_eq k t ≡ true) ks = Any-from_list_any (λ k. bytes_eq k t) ks (cc) in
      let same : a.1 ≡ t = (bytes_eq-Decides a.1 t).0 a.4 in
      let P : List ℕ → Type 0 = λ x. Contains ks x in
      subst P same (a.0, a.2, a.3)),
  λ c. (let found : Any (λ k. bytes_eq k t ≡ true) ks = (c.0, t, c.1, c.2, (bytes_eq-Decides t t).1 refl) in
      let h : list_any (λ k. bytes_eq k t) ks ≡ true = list_any-from_Any (λ k. bytes_eq k t) ks found in
      cc),
)

-- a text that meets the other parts of the rule is a name exactly where it is no keyword
name_unless_keyword :
    (t : List ℕ) (k : Bool) → StartsWithLetter t → All (λ b. IsTrue (is_letter b || is_mark b)) t → Any (λ b. IsTrue (is_mark b)) t
    → (IsTrue k ↔ Contains keywords t) → IsTrue (not k) ↔ IsName t
name_unless_keyword t true s p m k = (λ h. absurd (false≢true h), λ n. absurd (n.free (k.0 refl)))
name_unless_keyword t false s p m k = (λ h. record { starts = s; plain = p; marked = m; free = λ c. false≢true (k.1 c) }, λ n. refl)

-- the same from the bytes of the text
pub name_unless_keyword_of :
    (t bs : List ℕ) (k : Bool) → bs ≡ t → StartsWithLetter bs → All (λ b. IsTrue (is_letter b || is_mark b)) bs → Any (λ b. IsTrue (is_mark b)) bs
    → (IsTrue k ↔ Contains keywords t) → IsTrue (not k) ↔ IsName t
name_unless_keyword_of t bs k e s p m =
    let P : List ℕ → Type 0 = λ x. All (λ b. IsTrue (is_letter b || is_mark b)) x in
    let Q : List ℕ → Type 0 = λ x. Any (λ b. IsTrue (is_mark b)) x in
    name_unless_keyword t k (subst StartsWithLetter e s) (subst P e p) (subst Q e m)
