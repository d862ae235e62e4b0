-- Behind its first word a line has a word for each slot.
use Rattle.std.proofs.Common.{◌≡◌, ℕ, suc, ◌-◌, List, [], ◌∷◌, ◌++◌, length, take, true, refl, sym, subst, Option, Some, None, arith}
use Rattle.std.specs.Prelude.{codes, decimal, Contains, All, nat_lt, ◌||◌}
use Rattle.std.proofs.lemmas.Bool.{false≢true}
use Rattle.std.proofs.lemmas.List.{map-append}
use Rattle.std.proofs.lemmas.List.Folds.{Any-from_list_any}
use Rattle.std.proofs.lemmas.List.Elements.{All-from_recursion, All-contains, Contains-append_left, Contains-append_right}
use Rattle.ix_net.specs.declared.netlist.Port.{Port as DeclaredPort}
use Rattle.ix_net.specs.Name.{IsName, keywords, is_letter, is_mark}
use Rattle.ix_net.specs.Valid.{names}
use Rattle.ix_verilog.specs.declared.source.Source.{Source}
use Rattle.ix_verilog.specs.Words.{Word}
use Rattle.ix_verilog.specs.Lines.{IsNumber, IsLiteral}
use Rattle.ix_verilog.specs.Subset.{IsShortName, IsOperand, IsTarget, IsRegister, assigned}
use Rattle.ix_vline.specs.declared.kind.Kind.{Kind}
use Rattle.ix_vline.specs.declared.kind.Kind.TheVariants.{Head, Port, Heading, Input, Output, Wire, Register, Assign, Always, Update, Done, Finish}
use Rattle.ix_vline.specs.declared.kind.Right.{Right}
use Rattle.ix_vline.specs.declared.kind.Right.TheVariants as right
use Rattle.ix_vline.specs.declared.kind.Slot.{Slot}
use Rattle.ix_vline.specs.declared.kind.Slot.TheVariants as slot
use Rattle.ix_vline.specs.Slots.{Takes, slots, right_slots, declaring, first_word, MayStartIn, MayStart}
use Rattle.ix_vline.specs.Reached.{Reaches, Fits}
use Rattle.ix_vline.proofs.Fitting.{AllHave, completed}

-- ---- a name, and numbers
long_keywords : All (λ (k : Word). nat_lt 2 (length k) ≡ true) keywords
long_keywords =
    All-from_recursion (λ (k : Word). nat_lt 2 (length k) ≡ true) keywords
    (refl, (refl, (refl, (refl, (refl, (refl, (refl, (refl, (refl, (refl, (refl, (refl, (refl, (refl, (refl, (refl, (refl, (refl, (refl, (refl, (refl, (refl, tt))))))))))))))))))))))

some_name : IsName (codes "a0")
some_name = record {
  starts = refl;
  plain = All-from_recursion (λ b. (is_letter b || is_mark b) ≡ true) (codes "a0") (refl, (refl, tt));
  marked = Any-from_list_any is_mark (codes "a0") refl;
  free = λ c. false≢true (All-contains (λ (k : Word). nat_lt 2 (length k) ≡ true) keywords (codes "a0") long_keywords c);
}

short_name : IsShortName (codes "a0")
short_name = (some_name, omega arith)

zero_number : IsNumber (codes "0")
zero_number = (refl, refl, λ e. refl)

one_number : IsNumber (codes "1")
one_number = (refl, refl, λ e. refl)

some_literal : IsLiteral (codes "1'h0")
some_literal = record { width = codes "1"; digits = codes "0"; wide = one_number; are = (refl, refl, λ e. refl); is = refl }

-- ---- operands
target_operand : (s : Source) (n : Word) → IsTarget s n → IsOperand s n
target_operand s n t =
    let a : Contains (names s.inputs ++ names (assigned s)) n = Contains-append_right (names s.inputs) (names (assigned s)) n t.declared_so in
    let b : Contains (names (s.inputs ++ assigned s)) n = subst (λ z. Contains z n) (sym (map-append (λ (p : DeclaredPort). p.name) s.inputs (assigned s))) a in
    let d : Contains (names (s.inputs ++ assigned s) ++ names s.registers) n = Contains-append_left (names (s.inputs ++ assigned s)) (names s.registers) n b in
    record { named = t.named; declared_so = subst (λ z. Contains z n) (sym (map-append (λ (p : DeclaredPort). p.name) (s.inputs ++ assigned s) s.registers)) d }

register_operand : (s : Source) (n : Word) → IsRegister s n → IsOperand s n
register_operand s n t =
    let d : Contains (names (s.inputs ++ assigned s) ++ names s.registers) n = Contains-append_right (names (s.inputs ++ assigned s)) (names s.registers) n t.declared_so in
    record { named = t.named; declared_so = subst (λ z. Contains z n) (sym (map-append (λ (p : DeclaredPort). p.name) (s.inputs ++ assigned s) s.registers)) d }

-- ---- lines
declaring_have : (o : Option Source) (k : Kind) (name : Slot) → MayStart o k → (w : Word) × Takes o name w → AllHave o (declaring k name)
declaring_have o k name m h = ((first_word k, (refl, m)), ((codes "[", refl), ((decimal (1 - 1), (1, record { some = omega arith; most = omega arith }, refl)), ((codes ":", refl), ((codes "0", refl), ((codes "]", refl), (h, ((codes ";", refl), tt))))))))

right_have : (s : Source) (k : Right) → (w : Word) × IsOperand s w → AllHave (Some s) (right_slots k)
right_have s right.Literal h = ((codes "1'h0", some_literal), ((codes ";", refl), tt))
right_have s right.Copy h = (h, ((codes ";", refl), tt))
right_have s right.Both h = (h, ((codes "+", (0, omega arith, refl)), (h, ((codes ";", refl), tt))))
right_have s right.Turned h = ((codes "~", refl), (h, ((codes ";", refl), tt)))
right_have s right.Signed h = ((codes "$signed", refl), ((codes "(", refl), (h, ((codes ")", refl), ((codes "<", refl), ((codes "$signed", refl), ((codes "(", refl), (h, ((codes ")", refl), ((codes ";", refl), tt))))))))))
right_have s right.Joined h = ((codes "{", refl), (h, ((codes ",", refl), (h, ((codes "}", refl), ((codes ";", refl), tt))))))
right_have s right.Range h = (h, ((codes "[", refl), ((codes "0", zero_number), ((codes ":", refl), ((codes "0", zero_number), ((codes "]", refl), ((codes ";", refl), tt)))))))
right_have s right.Choice h = (h, ((codes "?", refl), (h, ((codes ":", refl), (h, ((codes ";", refl), tt))))))

have_in : (s : Source) (k : Kind) → MayStartIn s k → AllHave (Some s) (slots k)
have_in s Head m = absurd m
have_in s Port m = ((codes ",", (refl, m)), ((codes "a0", short_name), tt))
have_in s Heading m = ((codes ")", (refl, m)), ((codes ";", refl), ((codes "input", refl), ((codes "clk", refl), ((codes ";", refl), tt)))))
have_in s Input m = declaring_have (Some s) Input slot.Next m m.1
have_in s Output m = declaring_have (Some s) Output slot.Next m m.1
have_in s Wire m = declaring_have (Some s) Wire slot.Fresh m (codes "a0", short_name)
have_in s Register m = declaring_have (Some s) Register slot.Fresh m (codes "a0", short_name)
have_in s (Assign k) m = ((codes "assign", (refl, m)), (m.2, ((codes "=", refl), right_have s k (m.2.0, target_operand s m.2.0 m.2.1))))
have_in s Always m = ((codes "always", (refl, m)), ((codes "@", refl), ((codes "(", refl), ((codes "posedge", refl), ((codes "clk", refl), ((codes ")", refl), ((codes "begin", refl), tt)))))))
have_in s Update m =
    let h : (w : Word) × IsOperand s w = (m.1.0, register_operand s m.1.0 m.1.1) in
    ((codes "if", (refl, m)), ((codes "(", refl), (h, ((codes ")", refl), (m.1, ((codes "<=", refl), (h, ((codes ";", refl), tt))))))))
have_in s Done m = ((codes "end", (refl, m)), tt)
have_in s Finish m = ((codes "endmodule", (refl, m)), tt)

have : (o : Option Source) (k : Kind) → MayStart o k → AllHave o (slots k)
have (Some s) k m = have_in s k m
have None Head m = ((codes "module", (refl, tt)), ((codes "a0", short_name), ((codes "(", refl), ((codes "clk", refl), tt))))
have None Port m = absurd m
have None Heading m = absurd m
have None Input m = absurd m
have None Output m = absurd m
have None Wire m = absurd m
have None Register m = absurd m
have None (Assign k) m = absurd m
have None Always m = absurd m
have None Update m = absurd m
have None Done m = absurd m
have None Finish m = absurd m

-- the first slot of a kind
first_of : (k : Kind) → (xs : List Slot) × (slots k ≡ slot.First k ∷ xs)
first_of Head = (_, refl)
first_of Port = (_, refl)
first_of Heading = (_, refl)
first_of Input = (_, refl)
first_of Output = (_, refl)
first_of Wire = (_, refl)
first_of Register = (_, refl)
first_of (Assign k) = (_, refl)
first_of Always = (_, refl)
first_of Update = (_, refl)
first_of Done = (_, refl)
first_of Finish = (_, refl)

started : (o : Option Source) (k : Kind) (xs : List Slot) (ws : List Word) (n : ℕ) → Reaches o (slot.First k ∷ xs) ws (suc n) → MayStart o k
started o k xs [] n h = absurd (omega (arith, h))
started o k xs (w ∷ ws) n h = h.0.1

-- words of which the first is that of a line that may stand
pub started_goes_on : (o : Option Source) (k : Kind) (ws : List Word) (n : ℕ) → Reaches o (slots k) ws (suc n) → (more : List Word) × Fits o (slots k) (take (suc n) ws ++ more)
started_goes_on o k ws n h =
    let f = first_of k in
    let m : MayStart o k = started o k f.0 ws n (subst (λ (z : List Slot). Reaches o z ws (suc n)) f.1 h) in
    completed o (slots k) ws (suc n) h (have o k m)
