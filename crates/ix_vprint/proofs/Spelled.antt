-- The words of each printed line.
use Rattle.std.proofs.Common.{◌≡◌, ℕ, ◌-◌, ◌≤◌, List, [], ◌∷◌, ◌++◌, map, refl, sym, subst, append_assoc, arith}
use Rattle.std.specs.Prelude.{All, codes, decimal}
use Rattle.std.specs.List.{flat_map}
use Rattle.std.proofs.lemmas.List.Elements.{All-head, All-tail}
use Rattle.ix_net.specs.declared.netlist.Port.{Port}
use Rattle.ix_net.specs.declared.netlist.Cell.{Cell}
use Rattle.ix_net.specs.declared.netlist.Bank.{Bank}
use Rattle.ix_net.specs.declared.netlist.Form.{Form}
use Rattle.ix_net.specs.declared.netlist.Form.TheVariants.{Hex, Copy, Add, Sub, Mul, And, Or, Xor, Not, Eq, Lt, LtSigned, Join, Range, Choose}
use Rattle.ix_net.specs.Forms.{operands}
use Rattle.ix_verilog.specs.Words.{Word, form_of, single}
use Rattle.ix_verilog.specs.Lines.{Line, port, assign, update, line_words, port_words, form_words, right_of, hex, IsNumber}
use Rattle.ix_verilog.proofs.OneNet.{IsSmall, raw_small}
use Rattle.ix_verilog.proofs.Digits.{decimal_is_number, hex_are_digits}
use Rattle.ix_vprint.specs.Printed.{port_name, port_text, pair_text, form_text, cell_text, bank_text}
use Rattle.ix_vprint.proofs.Laid.{Reading, Says, Run, name_run, number_run, Ends, Piece, gap, run, mark, twin, onto, said, IsLaid, laid, number_is_run, literal_is_run}

-- a text that is those pieces
pub by_pieces : (text : List ℕ) (words : List Word) (ps : List Piece) → ((y : List ℕ) → text ++ y ≡ onto ps y) → ((ws : List Word) → words ++ ws ≡ said ps ws) → ((y : List ℕ) → IsLaid ps y) → Says text words
by_pieces text words ps e f h y ws r =
    let P : List ℕ → Type 0 = λ z. Reading z (words ++ ws) in
    let Q : List Word → Type 0 = λ z. Reading (onto ps y) z in
    subst P (sym (e y)) (subst Q (sym (f ws)) (laid ps y (h y) ws r))

-- ---- right sides
pair_says : (m : ℕ) → ((y : List ℕ) → form_of m (32 ∷ y) ≡ single) → (a b : Word) → Run a → Run b → Says (pair_text a (32 ∷ m ∷ 32 ∷ []) b) (a ∷ (m ∷ []) ∷ b ∷ codes ";" ∷ [])
pair_says m e a b ra rb =
    by_pieces (pair_text a (32 ∷ m ∷ 32 ∷ []) b) (a ∷ (m ∷ []) ∷ b ∷ codes ";" ∷ [])
    (run a ∷ gap 32 ∷ mark m ∷ gap 32 ∷ run b ∷ mark 59 ∷ gap 10 ∷ [])
    (λ y. simp append_assoc) (λ ws. refl)
    (λ y. (ra, (refl, (refl, (e (b ++ 59 ∷ 10 ∷ y), (refl, (rb, (refl, (refl, (refl, tt))))))))))

signed_word : Run (codes "$signed")
signed_word = name_run 36 (codes "signed") (λ bs. refl) refl

-- the operands are words
abbrev pub AreRuns : List Word → Type 0
AreRuns [] = Unit {0}
AreRuns (n ∷ ns) = Run n × AreRuns ns

pub are_runs : (ns : List Word) → All Run ns → AreRuns ns
are_runs [] h = tt
are_runs (n ∷ ns) h = (All-head Run n ns h, are_runs ns (All-tail Run n ns h))

pub form_says : (f : Form) → AreRuns (operands f) → IsSmall f → Says (form_text f) (form_words f ++ codes ";" ∷ [])
form_says (Hex d) r s =
    let w : IsNumber (decimal d.width) = decimal_is_number d.width (omega (arith, d.most_width)) in
    let l : Run (decimal d.width ++ (codes "'h" ++ hex d.raw)) = literal_is_run (decimal d.width) (hex d.raw) w (hex_are_digits 31 d.raw (raw_small d)) in
    by_pieces (form_text (Hex d)) (form_words (Hex d) ++ codes ";" ∷ []) (run (decimal d.width ++ (codes "'h" ++ hex d.raw)) ∷ mark 59 ∷ gap 10 ∷ [])
    (λ y. simp append_assoc) (λ ws. refl) (λ y. (l, (refl, (refl, (refl, tt)))))
form_says (Copy a) r s =
    by_pieces (form_text (Copy a)) (a ∷ codes ";" ∷ []) (run a ∷ mark 59 ∷ gap 10 ∷ []) (λ y. simp append_assoc) (λ ws. refl) (λ y. (r.0, (refl, (refl, (refl, tt)))))
form_says (Add a b) r s = pair_says 43 (λ y. refl) a b r.0 r.1.0
form_says (Sub a b) r s = pair_says 45 (λ y. refl) a b r.0 r.1.0
form_says (Mul a b) r s = pair_says 42 (λ y. refl) a b r.0 r.1.0
form_says (And a b) r s = pair_says 38 (λ y. refl) a b r.0 r.1.0
form_says (Or a b) r s = pair_says 124 (λ y. refl) a b r.0 r.1.0
form_says (Xor a b) r s = pair_says 94 (λ y. refl) a b r.0 r.1.0
form_says (Not a) r s =
    by_pieces (form_text (Not a)) (codes "~" ∷ a ∷ codes ";" ∷ []) (mark 126 ∷ run a ∷ mark 59 ∷ gap 10 ∷ []) (λ y. simp append_assoc) (λ ws. refl) (λ y. (refl, (r.0, (refl, (refl, (refl, tt))))))
form_says (Eq a b) r s =
    by_pieces (form_text (Eq a b)) (a ∷ codes "==" ∷ b ∷ codes ";" ∷ []) (run a ∷ gap 32 ∷ twin 61 61 ∷ gap 32 ∷ run b ∷ mark 59 ∷ gap 10 ∷ []) (λ y. simp append_assoc) (λ ws. refl)
    (λ y. (r.0, (refl, (refl, (refl, (refl, (r.1.0, (refl, (refl, (refl, tt))))))))))
form_says (Lt a b) r s = pair_says 60 (λ y. refl) a b r.0 r.1.0
form_says (LtSigned a b) r s =
    by_pieces (form_text (LtSigned a b)) (form_words (LtSigned a b) ++ codes ";" ∷ [])
    (run (codes "$signed") ∷ mark 40 ∷ run a ∷ mark 41 ∷ gap 32 ∷ mark 60 ∷ gap 32 ∷ run (codes "$signed") ∷ mark 40 ∷ run b ∷ mark 41 ∷ mark 59 ∷ gap 10 ∷ []) (λ y. simp append_assoc) (λ ws. refl)
    (λ y. (signed_word, (refl, (refl, (r.0, (refl, (refl, (refl, (refl, (refl, (signed_word, (refl, (refl, (r.1.0, (refl, (refl, (refl, (refl, tt))))))))))))))))))
form_says (Join a b) r s =
    by_pieces (form_text (Join a b)) (form_words (Join a b) ++ codes ";" ∷ []) (mark 123 ∷ run a ∷ mark 44 ∷ gap 32 ∷ run b ∷ mark 125 ∷ mark 59 ∷ gap 10 ∷ []) (λ y. simp append_assoc) (λ ws. refl)
    (λ y. (refl, (r.0, (refl, (refl, (refl, (r.1.0, (refl, (refl, (refl, (refl, tt)))))))))))
form_says (Range a hi lo) r s =
    let h = number_is_run (decimal hi) (decimal_is_number hi s.0) in
    let l = number_is_run (decimal lo) (decimal_is_number lo s.1) in
    by_pieces (form_text (Range a hi lo)) (form_words (Range a hi lo) ++ codes ";" ∷ []) (run a ∷ mark 91 ∷ run (decimal hi) ∷ mark 58 ∷ run (decimal lo) ∷ mark 93 ∷ mark 59 ∷ gap 10 ∷ []) (λ y. simp append_assoc) (λ ws. refl)
    (λ y. (r.0, (refl, (refl, (h, (refl, (refl, (l, (refl, (refl, (refl, (refl, tt))))))))))))
form_says (Choose c a b) r s =
    by_pieces (form_text (Choose c a b)) (form_words (Choose c a b) ++ codes ";" ∷ []) (run c ∷ gap 32 ∷ mark 63 ∷ gap 32 ∷ run a ∷ gap 32 ∷ mark 58 ∷ gap 32 ∷ run b ∷ mark 59 ∷ gap 10 ∷ []) (λ y. simp append_assoc) (λ ws. refl)
    (λ y. (r.0, (refl, (refl, (refl, (refl, (r.1.0, (refl, (refl, (refl, (refl, (r.1.1.0, (refl, (refl, (refl, tt)))))))))))))))

-- ---- lines
abbrev pub assign_of : Cell → Line
assign_of c = assign (record { target = c.target; right = right_of c.form })

abbrev pub update_of : Bank → Line
update_of b = update (record { enable = b.enable; target = b.target; source = b.source })

abbrev pub port_of : Port → Line
port_of p = port p.name

assign_word : Run (codes "assign")
assign_word = name_run 97 (codes "ssign") (λ bs. refl) refl

pub cell_says : (c : Cell) → Run c.target → AreRuns (operands c.form) → IsSmall c.form → Says (cell_text c) (line_words (assign_of c))
cell_says c t r s y ws h =
    let e : cell_text c ++ y ≡ onto (gap 32 ∷ gap 32 ∷ run (codes "assign") ∷ gap 32 ∷ run c.target ∷ gap 32 ∷ mark 61 ∷ gap 32 ∷ []) (form_text c.form ++ y) = simp append_assoc in
    let P : List ℕ → Type 0 = λ z. Reading z (line_words (assign_of c) ++ ws) in
    subst P (sym e)
    (laid (gap 32 ∷ gap 32 ∷ run (codes "assign") ∷ gap 32 ∷ run c.target ∷ gap 32 ∷ mark 61 ∷ gap 32 ∷ []) (form_text c.form ++ y)
    (refl, (refl, (assign_word, (refl, (refl, (t, (refl, (refl, (refl, (refl, tt)))))))))) ((form_words c.form ++ codes ";" ∷ []) ++ ws) (form_says c.form r s y ws h))

pub bank_says : (b : Bank) → Run b.enable → Run b.target → Run b.source → Says (bank_text b) (line_words (update_of b))
bank_says b e t s =
    by_pieces (bank_text b) (line_words (update_of b))
    (gap 32 ∷ gap 32 ∷ gap 32 ∷ gap 32 ∷ run (codes "if") ∷ gap 32 ∷ mark 40 ∷ run b.enable ∷ mark 41 ∷ gap 32 ∷ run b.target ∷ gap 32 ∷ twin 60 61 ∷ gap 32 ∷ run b.source ∷ mark 59 ∷ gap 10 ∷ [])
    (λ y. simp append_assoc) (λ ws. refl)
    (λ y. (refl, (refl, (refl, (refl, (if_word, (refl, (refl, (refl, (e, (refl, (refl, (refl, (t, (refl, (refl, (refl, (refl, (s, (refl, (refl, (refl, tt))))))))))))))))))))))
  where
    if_word : Run (codes "if")
    if_word = name_run 105 (codes "f") (λ bs. refl) refl

pub port_says : (word : Word) → Run word → (p : Port) → Run p.name → p.width ≤ 128 → Says (port_text (32 ∷ 32 ∷ (word ++ 32 ∷ 91 ∷ [])) p) (port_words word p)
port_says word k p n w =
    let d = number_is_run (decimal (p.width - 1)) (decimal_is_number (p.width - 1) (omega arith)) in
    by_pieces (port_text (32 ∷ 32 ∷ (word ++ 32 ∷ 91 ∷ [])) p) (port_words word p)
    (gap 32 ∷ gap 32 ∷ run word ∷ gap 32 ∷ mark 91 ∷ run (decimal (p.width - 1)) ∷ mark 58 ∷ run (codes "0") ∷ mark 93 ∷ gap 32 ∷ run p.name ∷ mark 59 ∷ gap 10 ∷ [])
    (λ y. simp append_assoc) (λ ws. refl)
    (λ y. (refl, (refl, (k, (refl, (refl, (refl, (d, (refl, (refl, (zero_word, (refl, (refl, (refl, (n, (refl, (refl, (refl, tt))))))))))))))))))
  where
    zero_word : Run (codes "0")
    zero_word = number_run 48 [] (λ bs. refl) refl

-- ---- the first lines
pub record HeadRest (ports : List Port) (y : List ℕ) (ws : List Word) : Type 0 where
  pub ends : Ends (flat_map port_name ports ++ y)
  pub reads : Reading (flat_map port_name ports ++ y) (flat_map line_words (map port_of ports) ++ ws)

pub ports_rest : (ports : List Port) → AreRuns (map (λ (p : Port). p.name) ports) → (y : List ℕ) (ws : List Word) → Ends y → Reading y ws → HeadRest ports y ws
ports_rest [] r y ws e h = record { ends = e; reads = h }
ports_rest (p ∷ ps) r y ws e h =
    let k = ports_rest ps r.1 y ws e h in
    let Z = flat_map port_name ps ++ y in
    let W = flat_map line_words (map port_of ps) ++ ws in
    let q : port_name p ++ flat_map port_name ps ++ y ≡ onto (mark 44 ∷ gap 32 ∷ run p.name ∷ []) Z = simp append_assoc in
    let P : List ℕ → Type 0 = λ z. Reading z (codes "," ∷ p.name ∷ W) in
    record {
      ends = refl;
      reads = subst P (sym q) (laid (mark 44 ∷ gap 32 ∷ run p.name ∷ []) Z (refl, (refl, (r.0, (k.ends, tt)))) W k.reads);
    }
