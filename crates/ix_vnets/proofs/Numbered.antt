-- As many words `assign` and `if` stand in the text of modules as it has lines of widths.
use Rattle.std.proofs.Common.{◌≡◌, ◌≢◌, ℕ, suc, ◌+◌, ◌-◌, List, [], ◌∷◌, ◌++◌, false, length, filter, map, Option, Some, None, refl, ap, sym, ◌∙◌, subst, arith}
use Rattle.std.specs.Prelude.{codes, decimal, Contains, ◌||◌}
use Rattle.std.specs.List.{flat_map, AllByRecursion}
use Rattle.std.specs.Str.{bytes_eq}
use Rattle.std.proofs.lemmas.Bool.{true≢false, false_from_ne_true}
use Rattle.std.proofs.lemmas.List.{length-map, length-append}
use Rattle.std.proofs.lemmas.List.Elements.{All-contains, All-from_recursion, filter-append}
use Rattle.std.proofs.lemmas.Slice.Eq.{bytes_eq-Decides}
use Rattle.ix_net.specs.declared.netlist.Port.{Port}
use Rattle.ix_net.specs.Name.{IsName, is_mark}
use Rattle.ix_net.specs.Valid.{IsWidth}
use Rattle.ix_verilog.specs.declared.source.Source.{Source}
use Rattle.ix_verilog.specs.declared.right.Sign.{Sign}
use Rattle.ix_verilog.specs.declared.right.Sign.TheVariants.{Plus, Minus, Times, And, Or, Xor, Equal, Less}
use Rattle.ix_verilog.specs.declared.right.RightSide.{RightSide}
use Rattle.ix_verilog.specs.declared.right.RightSide.TheVariants as side
use Rattle.ix_verilog.specs.declared.source.Stage.{Stage}
use Rattle.ix_verilog.specs.declared.source.Stage.TheVariants.{Ports, Lines, Clocked, Ended}
use Rattle.ix_verilog.specs.declared.source.Assign.{Assign}
use Rattle.ix_verilog.specs.declared.source.Update.{Update}
use Rattle.ix_verilog.specs.Words.{Word, is_digit}
use Rattle.ix_verilog.specs.Lines.{Line, head, port, heading, input, output, wire, register, assign, always, update, done, finish, line_words, port_words, right_words, sign_word, IsNumber, IsLiteral, IsRight}
use Rattle.ix_verilog.specs.Subset.{State, start, Leads, MayStandIn, MayStand, after_in, with_line, IsOperand, AreModules, MayDeclare}
use Rattle.ix_verilog.proofs.Digits.{decimal_is_number}
use Rattle.ix_vnets.specs.Drives.{assigning, updating, drives_in, drives, is_drive}
use Rattle.ix_vnets.proofs.Finishing.{IsGoing, IsFine, step, next_may, IsOpen, fine_start}

-- ---- words that begin no such line
pub not_drive : (w : Word) → (w ≡ codes "assign" → ⊥) → (w ≡ codes "if" → ⊥) → is_drive w ≡ false
not_drive w a b =
    let x : bytes_eq w (codes "assign") ≡ false = false_from_ne_true (bytes_eq w (codes "assign")) (λ t. a ((bytes_eq-Decides w (codes "assign")).0 t)) in
    let y : bytes_eq w (codes "if") ≡ false = false_from_ne_true (bytes_eq w (codes "if")) (λ t. b ((bytes_eq-Decides w (codes "if")).0 t)) in
    ap (λ z. z || bytes_eq w (codes "if")) x ∙ y

unmarked : (w : Word) → AllByRecursion (λ b. is_mark b ≡ false) w → IsName w → ⊥
unmarked w h n =
    let m = n.marked in
    let off : is_mark m.1 ≡ false = All-contains (λ b. is_mark b ≡ false) w m.1 (All-from_recursion (λ b. is_mark b ≡ false) w h) (m.0, m.2, m.3) in
    true≢false (sym m.4 ∙ off)

plain : (w : Word) → IsName w → is_drive w ≡ false
plain w n = not_drive w (λ e. unmarked (codes "assign") (refl, (refl, (refl, (refl, (refl, (refl, tt)))))) (subst IsName e n)) (λ e. unmarked (codes "if") (refl, (refl, tt)) (subst IsName e n))

number_first : (w v : Word) (b : ℕ) → is_digit b ≡ false → IsNumber w → w ≢ b ∷ v
number_first [] v b d h e = h
number_first (c ∷ w) v b d h e = (let k : c ≡ b = cc in true≢false (sym h.0 ∙ ap is_digit k ∙ d))

number : (w : Word) → IsNumber w → is_drive w ≡ false
number w h = not_drive w (λ e. number_first w (codes "ssign") 97 refl h e) (λ e. number_first w (codes "f") 105 refl h e)

literal_first : (width rest v : Word) (b : ℕ) → is_digit b ≡ false → IsNumber width → width ++ rest ≢ b ∷ v
literal_first [] rest v b d h e = h
literal_first (c ∷ width) rest v b d h e = (let k : c ≡ b = cc in true≢false (sym h.0 ∙ ap is_digit k ∙ d))

literal_word : (w : Word) → IsLiteral w → is_drive w ≡ false
literal_word w l = not_drive w (λ e. literal_first l.width (codes "'h" ++ l.digits) (codes "ssign") 97 refl l.wide (sym l.is ∙ e)) (λ e. literal_first l.width (codes "'h" ++ l.digits) (codes "f") 105 refl l.wide (sym l.is ∙ e))

sign : (s : Sign) → is_drive (sign_word s) ≡ false
sign Plus = refl
sign Minus = refl
sign Times = refl
sign And = refl
sign Or = refl
sign Xor = refl
sign Equal = refl
sign Less = refl

abbrev NoDrive : List Word → Type 0
NoDrive ws = AllByRecursion (λ w. is_drive w ≡ false) ws

right_side : (s : Source) (r : RightSide) → IsRight (IsOperand s) r → NoDrive (right_words r)
right_side s (side.Literal w) l = (literal_word w l, tt)
right_side s (side.Copy a) h = (plain a h.named, tt)
right_side s (side.Both o a b) h = (plain a h.0.named, (sign o, (plain b h.1.named, tt)))
right_side s (side.Turned a) h = (refl, (plain a h.named, tt))
right_side s (side.Signed a b) h = (refl, (refl, (plain a h.0.named, (refl, (refl, (refl, (refl, (plain b h.1.named, (refl, tt)))))))))
right_side s (side.Joined a b) h = (refl, (plain a h.0.named, (refl, (plain b h.1.named, (refl, tt)))))
right_side s (side.Range a h l) k = (plain a k.0.named, (refl, (number h k.1, (refl, (number l k.2, (refl, tt))))))
right_side s (side.Choice c a b) h = (plain c h.0.named, (refl, (plain a h.1.named, (refl, (plain b h.2.named, tt)))))

-- ---- how many words of a list begin one
abbrev pub drive_words : List Word → ℕ
drive_words ws = length (filter is_drive ws)

none : (ws : List Word) → NoDrive ws → drive_words ws ≡ 0
none [] h = refl
none (w ∷ ws) h = rw h.0 (none ws h.1)

words_both : (xs ys : List Word) → drive_words (xs ++ ys) ≡ drive_words xs + drive_words ys
words_both xs ys = ap length (filter-append is_drive xs ys) ∙ length-append (filter is_drive xs) (filter is_drive ys)

join_none : (xs ys : List Word) → NoDrive xs → NoDrive ys → NoDrive (xs ++ ys)
join_none [] ys h k = k
join_none (x ∷ xs) ys h k = (h.0, join_none xs ys h.1 k)

declared_words : (w : Word) (p : Port) → is_drive w ≡ false → IsName p.name → IsWidth p.width → NoDrive (port_words w p)
declared_words w p h n d = (h, (refl, (number (decimal (p.width - 1)) (decimal_is_number (p.width - 1) (omega (arith, d.most))), (refl, (refl, (refl, (plain p.name n, (refl, tt))))))))

-- ---- lines
abbrev size : Line → ℕ
size (assign a) = 1
size (update u) = 1
size line = 0

abbrev Counts : Line → Type 0
Counts l = drive_words (line_words l) ≡ size l

assign_counts : (s : Source) (a : Assign) → is_drive a.target ≡ false → NoDrive (right_words a.right) → Counts (assign a)
assign_counts s a t r = ap suc (none (a.target ∷ codes "=" ∷ (right_words a.right ++ codes ";" ∷ [])) (t, (refl, join_none (right_words a.right) (codes ";" ∷ []) r (refl, tt))))

update_counts : (u : Update) → is_drive u.enable ≡ false → is_drive u.target ≡ false → is_drive u.source ≡ false → Counts (update u)
update_counts u e t r = ap suc (none (codes "(" ∷ u.enable ∷ codes ")" ∷ u.target ∷ codes "<=" ∷ u.source ∷ codes ";" ∷ []) (refl, (e, (refl, (t, (refl, (r, (refl, tt))))))))

in_module : (s : Source) (t : Stage) (l : Line) → IsGoing s → MayStandIn s t l → Counts l
in_module s Ports (head n) g h = absurd h
in_module s Lines (head n) g h = absurd h
in_module s Clocked (head n) g h = absurd h
in_module s Ended (head n) g h = absurd h
in_module s Ports (port n) g h = none (line_words (port n)) (refl, (plain n h.0, tt))
in_module s Lines (port n) g h = absurd h
in_module s Clocked (port n) g h = absurd h
in_module s Ended (port n) g h = absurd h
in_module s Ports heading g h = refl
in_module s Lines heading g h = absurd h
in_module s Clocked heading g h = absurd h
in_module s Ended heading g h = absurd h
in_module s Ports (input p) g h = absurd h
in_module s Lines (input p) g h = (let m : MayDeclare p = next_may s g.ports p (h.0, h.1) in none (line_words (input p)) (declared_words (codes "input") p refl m.0.0 m.1))
in_module s Clocked (input p) g h = absurd h
in_module s Ended (input p) g h = absurd h
in_module s Ports (output p) g h = absurd h
in_module s Lines (output p) g h = (let m : MayDeclare p = next_may s g.ports p (h.0, h.1) in none (line_words (output p)) (declared_words (codes "output") p refl m.0.0 m.1))
in_module s Clocked (output p) g h = absurd h
in_module s Ended (output p) g h = absurd h
in_module s Ports (wire p) g h = absurd h
in_module s Lines (wire p) g h = none (line_words (wire p)) (declared_words (codes "wire") p refl h.1.0.0 h.1.1)
in_module s Clocked (wire p) g h = absurd h
in_module s Ended (wire p) g h = absurd h
in_module s Ports (register p) g h = absurd h
in_module s Lines (register p) g h = none (line_words (register p)) (declared_words (codes "reg") p refl h.1.0.0 h.1.1)
in_module s Clocked (register p) g h = absurd h
in_module s Ended (register p) g h = absurd h
in_module s Ports (assign a) g h = absurd h
in_module s Lines (assign a) g h = assign_counts s a (plain a.target h.1.named) (right_side s a.right h.2)
in_module s Clocked (assign a) g h = absurd h
in_module s Ended (assign a) g h = absurd h
in_module s Ports always g h = absurd h
in_module s Lines always g h = refl
in_module s Clocked always g h = absurd h
in_module s Ended always g h = absurd h
in_module s Ports (update u) g h = absurd h
in_module s Lines (update u) g h = absurd h
in_module s Clocked (update u) g h = update_counts u (plain u.enable h.0.named) (plain u.target h.1.named) (plain u.source h.2.named)
in_module s Ended (update u) g h = absurd h
in_module s Ports done g h = absurd h
in_module s Lines done g h = absurd h
in_module s Clocked done g h = refl
in_module s Ended done g h = absurd h
in_module s Ports finish g h = absurd h
in_module s Lines finish g h = refl
in_module s Clocked finish g h = absurd h
in_module s Ended finish g h = refl

-- ---- the lines of widths of a text
abbrev of_module : Option Source → ℕ
of_module None = 0
of_module (Some s) = length (drives_in s)

abbrev total : List Source → Option Source → ℕ
total ms o = length (drives ms) + of_module o

long : (s : Source) → length (drives_in s) ≡ length s.assigns + length s.updates
long s = omega (arith, length-append (map (assigning s) s.assigns) (map (updating s) s.updates), length-map s.assigns (assigning s), length-map s.updates (updating s))

grows : (s : Source) (l : Line) → length (drives_in (with_line s l)) ≡ length (drives_in s) + size l
grows s (head n) = omega (arith, long s, long (with_line s (head n)))
grows s (port n) = omega (arith, long s, long (with_line s (port n)))
grows s heading = omega (arith, long s, long (with_line s heading))
grows s (input p) = omega (arith, long s, long (with_line s (input p)))
grows s (output p) = omega (arith, long s, long (with_line s (output p)))
grows s (wire p) = omega (arith, long s, long (with_line s (wire p)))
grows s (register p) = omega (arith, long s, long (with_line s (register p)))
grows s (assign a) = omega (arith, long s, long (with_line s (assign a)), length-append s.assigns (a ∷ []))
grows s always = omega (arith, long s, long (with_line s always))
grows s (update u) = omega (arith, long s, long (with_line s (update u)), length-append s.updates (u ∷ []))
grows s done = omega (arith, long s, long (with_line s done))
grows s finish = omega (arith, long s, long (with_line s finish))

push : (ms : List Source) (s : Source) → length (drives (ms ++ s ∷ [])) ≡ length (drives ms) + length (drives_in s)
push [] s = omega (arith, length-append (drives_in s) [])
push (x ∷ ms) s = omega (arith, push ms s, length-append (drives_in x) (drives (ms ++ s ∷ [])), length-append (drives_in x) (drives ms))

abbrev Adds : List Source → Option Source → Line → Type 0
Adds ms o l = (Counts l) × (total (after_in ms o l).modules (after_in ms o l).open_module ≡ total ms o + size l)

adds : (ms : List Source) (o : Option Source) (l : Line) → IsOpen o → MayStand o l → Adds ms o l
adds ms None (head n) g h = (none (line_words (head n)) (refl, (plain n h.0, (refl, (refl, tt)))), omega arith)
adds ms None (port n) g h = absurd h
adds ms None heading g h = absurd h
adds ms None (input p) g h = absurd h
adds ms None (output p) g h = absurd h
adds ms None (wire p) g h = absurd h
adds ms None (register p) g h = absurd h
adds ms None (assign a) g h = absurd h
adds ms None always g h = absurd h
adds ms None (update u) g h = absurd h
adds ms None done g h = absurd h
adds ms None finish g h = absurd h
adds ms (Some s) (head n) g h = (in_module s s.stage (head n) g h, omega (arith, grows s (head n)))
adds ms (Some s) (port n) g h = (in_module s s.stage (port n) g h, omega (arith, grows s (port n)))
adds ms (Some s) heading g h = (in_module s s.stage heading g h, omega (arith, grows s heading))
adds ms (Some s) (input p) g h = (in_module s s.stage (input p) g h, omega (arith, grows s (input p)))
adds ms (Some s) (output p) g h = (in_module s s.stage (output p) g h, omega (arith, grows s (output p)))
adds ms (Some s) (wire p) g h = (in_module s s.stage (wire p) g h, omega (arith, grows s (wire p)))
adds ms (Some s) (register p) g h = (in_module s s.stage (register p) g h, omega (arith, grows s (register p)))
adds ms (Some s) (assign a) g h = (in_module s s.stage (assign a) g h, omega (arith, grows s (assign a)))
adds ms (Some s) always g h = (in_module s s.stage always g h, omega (arith, grows s always))
adds ms (Some s) (update u) g h = (in_module s s.stage (update u) g h, omega (arith, grows s (update u)))
adds ms (Some s) done g h = (in_module s s.stage done g h, omega (arith, grows s done))
adds ms (Some s) finish g h = (in_module s s.stage finish g h, omega (arith, push ms s))

walk : (lines : List Line) (st end : State) → Leads st lines end → IsFine st → drive_words (flat_map line_words lines) + total st.modules st.open_module ≡ total end.modules end.open_module
walk [] st end h f = omega (arith, ap (λ (z : State). total z.modules z.open_module) h)
walk (l ∷ lines) st end h f =
    let a = adds st.modules st.open_module l f.1 h.0 in
    let r = walk lines (after_in st.modules st.open_module l) end h.1 (step st.modules st.open_module l f.0 f.1 h.0) in
    omega (arith, a.0, a.1, r, words_both (line_words l) (flat_map line_words lines))

-- the text of modules has as many of these words as lines of widths
pub drives_numbered : (words : List Word) (modules : List Source) → AreModules words modules → drive_words words ≡ length (drives modules)
drives_numbered words modules a =
    let end : State = record { modules = modules; open_module = None } in
    let r = walk a.lines start end a.leads fine_start in
    ap drive_words a.are ∙ omega (arith, r)
