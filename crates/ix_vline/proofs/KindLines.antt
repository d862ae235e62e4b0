-- What fits the slots of a kind is a line that may stand.
use Rattle.std.proofs.Common.{◌≡◌, ◌-◌, List, [], ◌∷◌, ◌++◌, refl, ap, sym, ◌∙◌, subst, inl, inr, Option, Some, None}
use Rattle.std.specs.Prelude.{codes, decimal, Contains}
use Rattle.std.proofs.lemmas.List.Elements.{All-contains, All-from_recursion}
use Rattle.ix_net.specs.declared.netlist.Port.{Port as DeclaredPort}
use Rattle.ix_verilog.specs.declared.right.Sign.{Sign}
use Rattle.ix_verilog.specs.declared.right.Sign.TheVariants.{Plus, Minus, Times, And, Or, Xor, Equal, Less}
use Rattle.ix_verilog.specs.declared.right.RightSide.{RightSide}
use Rattle.ix_verilog.specs.declared.right.RightSide.TheVariants as side
use Rattle.ix_verilog.specs.declared.source.Source.{Source}
use Rattle.ix_verilog.specs.declared.source.Assign.{Assign as Assignment}
use Rattle.ix_verilog.specs.declared.source.Update.{Update as Change}
use Rattle.ix_verilog.specs.declared.source.Stage.{Stage}
use Rattle.ix_verilog.specs.declared.source.Stage.TheVariants.{Lines}
use Rattle.ix_verilog.specs.Words.{Word}
use Rattle.ix_verilog.specs.Lines as line
use Rattle.ix_verilog.specs.Lines.{Line, line_words, port_words, right_words, sign_word, operators, IsRight}
use Rattle.ix_verilog.specs.Subset.{MayStand, MayStandIn, IsShortName, IsNext, IsOperand, IsTarget, IsRegister}
use Rattle.ix_vline.specs.declared.kind.Kind.{Kind}
use Rattle.ix_vline.specs.declared.kind.Kind.TheVariants.{Head, Port, Heading, Input, Output, Wire, Register, Assign, Always, Update, Done, Finish}
use Rattle.ix_vline.specs.declared.kind.Right.{Right}
use Rattle.ix_vline.specs.declared.kind.Right.TheVariants as right
use Rattle.ix_vline.specs.declared.kind.Slot.{Slot}
use Rattle.ix_vline.specs.declared.kind.Slot.TheVariants as slot
use Rattle.ix_vline.specs.Slots.{Takes, slots, right_slots, declaring, first_word, MayStartIn}
use Rattle.ix_vline.specs.Reached.{Fits}
use Rattle.ix_vline.specs.Laws.{Stands}
use Rattle.ix_vline.specs.Picked.{nth, IsDeclaredBy, IsSideOf}
use Rattle.ix_vline.proofs.Fitting.{join, picks_are}

-- the line may stand, and has these words
abbrev pub IsHere : Option Source → List Word → Line → Type 0
IsHere o ws l = MayStand o l × (ws ≡ line_words l)

-- ---- the head, and a port
pub head_line : (ws : List Word) → Fits None (slots Head) ws → IsHere None ws (line.head (nth 1 ws))
head_line ws f =
    let e = picks_are None (slots Head) ws f in
    let n : f.4.0 ≡ nth 1 ws = sym (ap (nth 1) e) in
    (subst IsShortName n f.4.3, e ∙ join f.3.0 (join n (join f.4.4.3 (join f.4.4.4.3 refl))))

pub port_line : (s : Source) (ws : List Word) → Fits (Some s) (slots Port) ws → IsHere (Some s) ws (line.port (nth 1 ws))
port_line s ws f =
    let e = picks_are (Some s) (slots Port) ws f in
    let n : f.4.0 ≡ nth 1 ws = sym (ap (nth 1) e) in
    (subst (λ (t : Stage). MayStandIn s t (line.port (nth 1 ws))) (sym f.3.1) (subst IsShortName n f.4.3), e ∙ join f.3.0 (join n refl))

pub heading_line : (s : Source) (ws : List Word) → Fits (Some s) (slots Heading) ws → IsHere (Some s) ws line.heading
heading_line s ws f =
    let e = picks_are (Some s) (slots Heading) ws f in
    (subst (λ (t : Stage). MayStandIn s t line.heading) (sym f.3.1) tt, e ∙ join f.3.0 (join f.4.3 (join f.4.4.3 (join f.4.4.4.3 (join f.4.4.4.4.3 refl)))))

-- ---- declarations
declared_words : (s : Source) (k : Kind) (name : Slot) (ws : List Word) (f : Fits (Some s) (declaring k name) ws) (p : DeclaredPort) → IsDeclaredBy ws p → ws ≡ port_words (first_word k) p
declared_words s k name ws f p d =
    let e = picks_are (Some s) (declaring k name) ws f in
    let h : f.4.4.0 ≡ decimal (p.width - 1) = sym (ap (nth 2) e) ∙ d.highest in
    let n : f.4.4.4.4.4.4.0 ≡ p.name = sym (ap (nth 6) e) ∙ sym d.name in
    e ∙ join f.3.0 (join f.4.3 (join h (join f.4.4.4.3 (join f.4.4.4.4.3 (join f.4.4.4.4.4.3 (join n (join f.4.4.4.4.4.4.4.3 refl)))))))

declared_name : (s : Source) (k : Kind) (name : Slot) (ws : List Word) (f : Fits (Some s) (declaring k name) ws) (p : DeclaredPort) → IsDeclaredBy ws p → Takes (Some s) name p.name
declared_name s k name ws f p d =
    let e = picks_are (Some s) (declaring k name) ws f in
    subst (Takes (Some s) name) (sym (ap (nth 6) e) ∙ sym d.name) f.4.4.4.4.4.4.3

pub input_line : (s : Source) (ws : List Word) (p : DeclaredPort) → Fits (Some s) (slots Input) ws → IsDeclaredBy ws p → IsHere (Some s) ws (line.input p)
input_line s ws p f d =
    let n : IsNext s p.name = declared_name s Input slot.Next ws f p d in
    (subst (λ (t : Stage). MayStandIn s t (line.input p)) (sym f.3.1.0) (n, d.wide, f.3.1.2), declared_words s Input slot.Next ws f p d)

pub output_line : (s : Source) (ws : List Word) (p : DeclaredPort) → Fits (Some s) (slots Output) ws → IsDeclaredBy ws p → IsHere (Some s) ws (line.output p)
output_line s ws p f d =
    let n : IsNext s p.name = declared_name s Output slot.Next ws f p d in
    (subst (λ (t : Stage). MayStandIn s t (line.output p)) (sym f.3.1.0) (n, d.wide), declared_words s Output slot.Next ws f p d)

pub wire_line : (s : Source) (ws : List Word) (p : DeclaredPort) → Fits (Some s) (slots Wire) ws → IsDeclaredBy ws p → IsHere (Some s) ws (line.wire p)
wire_line s ws p f d =
    let n : IsShortName p.name = declared_name s Wire slot.Fresh ws f p d in
    (subst (λ (t : Stage). MayStandIn s t (line.wire p)) (sym f.3.1.0) (f.3.1.1, (n, d.wide), f.3.1.2, f.3.1.3), declared_words s Wire slot.Fresh ws f p d)

pub register_line : (s : Source) (ws : List Word) (p : DeclaredPort) → Fits (Some s) (slots Register) ws → IsDeclaredBy ws p → IsHere (Some s) ws (line.register p)
register_line s ws p f d =
    let n : IsShortName p.name = declared_name s Register slot.Fresh ws f p d in
    (subst (λ (t : Stage). MayStandIn s t (line.register p)) (sym f.3.1.0) (f.3.1.1, (n, d.wide), f.3.1.2), declared_words s Register slot.Fresh ws f p d)

-- ---- assignments
-- the right side and the words of it and of the end of the line
record SideLine (s : Source) (rest : List Word) (r : RightSide) : Type 0 where
  pub is : IsRight (IsOperand s) r
  pub are : rest ≡ right_words r ++ codes ";" ∷ []

-- the sign that a word is
sign_from : (o : Word) → Contains operators o → (s : Sign) × (sign_word s ≡ o)
sign_from o c =
    All-contains (λ (z : Word). (s : Sign) × (sign_word s ≡ z)) operators o
    (All-from_recursion (λ (z : Word). (s : Sign) × (sign_word s ≡ z)) operators ((Plus, refl), ((Minus, refl), ((Times, refl), ((And, refl), ((Or, refl), ((Xor, refl), ((Equal, refl), ((Less, refl), tt))))))))) c

side_line : (s : Source) (k : Right) (ws : List Word) (r : RightSide) (f : Fits (Some s) (slots (Assign k)) ws) → IsSideOf k ws r → SideLine s f.4.4.1 r
side_line s right.Literal ws r f h =
    let g = f.4.4.4 in
    let e = picks_are (Some s) (slots (Assign right.Literal)) ws f in
    let q : side.Literal g.0 ≡ r = ap (λ (z : List Word). side.Literal (nth 3 z)) (sym e) ∙ sym h in
    subst (SideLine s f.4.4.1) q (record { is = g.3; are = picks_are (Some s) (right_slots right.Literal) f.4.4.1 g ∙ join refl (join g.4.3 refl) })
side_line s right.Copy ws r f h =
    let g = f.4.4.4 in
    let e = picks_are (Some s) (slots (Assign right.Copy)) ws f in
    let q : side.Copy g.0 ≡ r = ap (λ (z : List Word). side.Copy (nth 3 z)) (sym e) ∙ sym h in
    subst (SideLine s f.4.4.1) q (record { is = g.3; are = picks_are (Some s) (right_slots right.Copy) f.4.4.1 g ∙ join refl (join g.4.3 refl) })
side_line s right.Both ws r f h =
    let g = f.4.4.4 in
    let e = picks_are (Some s) (slots (Assign right.Both)) ws f in
    let q : side.Both h.0 g.0 g.4.4.0 ≡ r = ap (λ (z : List Word). side.Both h.0 (nth 3 z) (nth 5 z)) (sym e) ∙ sym h.2 in
    let o : g.4.0 ≡ sign_word h.0 = sym (ap (nth 4) e) ∙ sym h.1 in
    subst (SideLine s f.4.4.1) q (record { is = (g.3, g.4.4.3); are = picks_are (Some s) (right_slots right.Both) f.4.4.1 g ∙ join refl (join o (join refl (join g.4.4.4.3 refl))) })
side_line s right.Turned ws r f h =
    let g = f.4.4.4 in
    let e = picks_are (Some s) (slots (Assign right.Turned)) ws f in
    let q : side.Turned g.4.0 ≡ r = ap (λ (z : List Word). side.Turned (nth 4 z)) (sym e) ∙ sym h in
    subst (SideLine s f.4.4.1) q (record { is = g.4.3; are = picks_are (Some s) (right_slots right.Turned) f.4.4.1 g ∙ join g.3 (join refl (join g.4.4.3 refl)) })
side_line s right.Signed ws r f h =
    let g = f.4.4.4 in
    let e = picks_are (Some s) (slots (Assign right.Signed)) ws f in
    let q : side.Signed g.4.4.0 g.4.4.4.4.4.4.4.0 ≡ r = ap (λ (z : List Word). side.Signed (nth 5 z) (nth 10 z)) (sym e) ∙ sym h in
    subst (SideLine s f.4.4.1) q (record { is = (g.4.4.3, g.4.4.4.4.4.4.4.3); are = picks_are (Some s) (right_slots right.Signed) f.4.4.1 g ∙ join g.3 (join g.4.3 (join refl (join g.4.4.4.3 (join g.4.4.4.4.3 (join g.4.4.4.4.4.3 (join g.4.4.4.4.4.4.3 (join refl (join g.4.4.4.4.4.4.4.4.3 (join g.4.4.4.4.4.4.4.4.4.3 refl))))))))) })
side_line s right.Joined ws r f h =
    let g = f.4.4.4 in
    let e = picks_are (Some s) (slots (Assign right.Joined)) ws f in
    let q : side.Joined g.4.0 g.4.4.4.0 ≡ r = ap (λ (z : List Word). side.Joined (nth 4 z) (nth 6 z)) (sym e) ∙ sym h in
    subst (SideLine s f.4.4.1) q (record { is = (g.4.3, g.4.4.4.3); are = picks_are (Some s) (right_slots right.Joined) f.4.4.1 g ∙ join g.3 (join refl (join g.4.4.3 (join refl (join g.4.4.4.4.3 (join g.4.4.4.4.4.3 refl))))) })
side_line s right.Range ws r f h =
    let g = f.4.4.4 in
    let e = picks_are (Some s) (slots (Assign right.Range)) ws f in
    let q : side.Range g.0 g.4.4.0 g.4.4.4.4.0 ≡ r = ap (λ (z : List Word). side.Range (nth 3 z) (nth 5 z) (nth 7 z)) (sym e) ∙ sym h in
    subst (SideLine s f.4.4.1) q (record { is = (g.3, g.4.4.3, g.4.4.4.4.3); are = picks_are (Some s) (right_slots right.Range) f.4.4.1 g ∙ join refl (join g.4.3 (join refl (join g.4.4.4.3 (join refl (join g.4.4.4.4.4.3 (join g.4.4.4.4.4.4.3 refl)))))) })
side_line s right.Choice ws r f h =
    let g = f.4.4.4 in
    let e = picks_are (Some s) (slots (Assign right.Choice)) ws f in
    let q : side.Choice g.0 g.4.4.0 g.4.4.4.4.0 ≡ r = ap (λ (z : List Word). side.Choice (nth 3 z) (nth 5 z) (nth 7 z)) (sym e) ∙ sym h in
    subst (SideLine s f.4.4.1) q (record { is = (g.3, g.4.4.3, g.4.4.4.4.3); are = picks_are (Some s) (right_slots right.Choice) f.4.4.1 g ∙ join refl (join g.4.3 (join refl (join g.4.4.4.3 (join refl (join g.4.4.4.4.4.3 refl))))) })

pub assign_line : (s : Source) (k : Right) (ws : List Word) (a : Assignment) → Fits (Some s) (slots (Assign k)) ws → a.target ≡ nth 1 ws → IsSideOf k ws a.right → IsHere (Some s) ws (line.assign a)
assign_line s k ws a f t r =
    let q : ws ≡ f.0 ∷ f.4.0 ∷ f.4.4.0 ∷ f.4.4.1 = f.2 ∙ ap (λ (z : List Word). f.0 ∷ z) (f.4.2 ∙ ap (λ (z : List Word). f.4.0 ∷ z) f.4.4.2) in
    let o = side_line s k ws a.right f r in
    let n : f.4.0 ≡ a.target = sym (ap (nth 1) q) ∙ sym t in
    let h : MayStandIn s Lines (line.assign a) = (f.3.1.1, subst (IsTarget s) n f.4.3, o.is) in
    (subst (λ (z : Stage). MayStandIn s z (line.assign a)) (sym f.3.1.0) h, q ∙ join f.3.0 (join n (join f.4.4.3 o.are)))

-- the words of the line have a right side
some_side : (s : Source) (k : Right) (ws : List Word) → Fits (Some s) (slots (Assign k)) ws → (r : RightSide) × IsSideOf k ws r
some_side s right.Literal ws f = (side.Literal (nth 3 ws), refl)
some_side s right.Copy ws f = (side.Copy (nth 3 ws), refl)
some_side s right.Both ws f =
    let e = picks_are (Some s) (slots (Assign right.Both)) ws f in
    let o = sign_from f.4.4.4.4.0 f.4.4.4.4.3 in
    (side.Both o.0 (nth 3 ws) (nth 5 ws), (o.0, o.1 ∙ sym (ap (nth 4) e), refl))
some_side s right.Turned ws f = (side.Turned (nth 4 ws), refl)
some_side s right.Signed ws f = (side.Signed (nth 5 ws) (nth 10 ws), refl)
some_side s right.Joined ws f = (side.Joined (nth 4 ws) (nth 6 ws), refl)
some_side s right.Range ws f = (side.Range (nth 3 ws) (nth 5 ws) (nth 7 ws), refl)
some_side s right.Choice ws f = (side.Choice (nth 3 ws) (nth 5 ws) (nth 7 ws), refl)

-- ---- registers and the end
pub always_line : (s : Source) (ws : List Word) → Fits (Some s) (slots Always) ws → IsHere (Some s) ws line.always
always_line s ws f =
    let e = picks_are (Some s) (slots Always) ws f in (
      subst (λ (t : Stage). MayStandIn s t line.always) (sym f.3.1.0) (f.3.1.1, f.3.1.2),
      e ∙ join f.3.0 (join f.4.3 (join f.4.4.3 (join f.4.4.4.3 (join f.4.4.4.4.3 (join f.4.4.4.4.4.3 (join f.4.4.4.4.4.4.3 refl)))))),
    )

pub update_line : (s : Source) (ws : List Word) (u : Change) → Fits (Some s) (slots Update) ws → u.enable ≡ nth 2 ws → u.target ≡ nth 4 ws → u.source ≡ nth 6 ws → IsHere (Some s) ws (line.update u)
update_line s ws u f a b c =
    let e = picks_are (Some s) (slots Update) ws f in
    let x : f.4.4.0 ≡ u.enable = sym (ap (nth 2) e) ∙ sym a in
    let y : f.4.4.4.4.0 ≡ u.target = sym (ap (nth 4) e) ∙ sym b in
    let z : f.4.4.4.4.4.4.0 ≡ u.source = sym (ap (nth 6) e) ∙ sym c in (
      subst (λ (t : Stage). MayStandIn s t (line.update u)) (sym f.3.1.0) (subst (IsOperand s) x f.4.4.3, subst (IsRegister s) y f.4.4.4.4.3, subst (IsOperand s) z f.4.4.4.4.4.4.3),
      e ∙ join f.3.0 (join f.4.3 (join x (join f.4.4.4.3 (join y (join f.4.4.4.4.4.3 (join z (join f.4.4.4.4.4.4.4.3 refl))))))),
    )

pub done_line : (s : Source) (ws : List Word) → Fits (Some s) (slots Done) ws → IsHere (Some s) ws line.done
done_line s ws f =
    let e = picks_are (Some s) (slots Done) ws f in
    (subst (λ (t : Stage). MayStandIn s t line.done) (sym f.3.1) tt, e ∙ join f.3.0 refl)

finish_may : (s : Source) → MayStartIn s Finish → MayStandIn s s.stage line.finish
finish_may s (inl h) = subst (λ (t : Stage). MayStandIn s t line.finish) (sym h.0) (h.1, h.2)
finish_may s (inr h) = subst (λ (t : Stage). MayStandIn s t line.finish) (sym h.0) h.1

pub finish_line : (s : Source) (ws : List Word) → Fits (Some s) (slots Finish) ws → IsHere (Some s) ws line.finish
finish_line s ws f =
    let e = picks_are (Some s) (slots Finish) ws f in
    (finish_may s f.3.1, e ∙ join f.3.0 refl)

-- ---- any kind
here : (o : Option Source) (ws : List Word) (l : Line) → IsHere o ws l → Stands o ws
here o ws l h = record { line = l; may = h.0; are = h.1 }

-- the port that words declare
declares : (s : Source) (k : Kind) (name : Slot) (ws : List Word) → Fits (Some s) (declaring k name) ws → (p : DeclaredPort) × IsDeclaredBy ws p
declares s k name ws f =
    let e = picks_are (Some s) (declaring k name) ws f in
    (record { name = nth 6 ws; width = f.4.4.3.0 }, record { name = refl; highest = ap (nth 2) e ∙ f.4.4.3.2; wide = f.4.4.3.1 })

stands_in : (s : Source) (k : Kind) (ws : List Word) → Fits (Some s) (slots k) ws → Stands (Some s) ws
stands_in s Head ws f = absurd f.3.1
stands_in s Port ws f = here (Some s) ws (line.port (nth 1 ws)) (port_line s ws f)
stands_in s Heading ws f = here (Some s) ws line.heading (heading_line s ws f)
stands_in s Input ws f = (let p = declares s Input slot.Next ws f in here (Some s) ws (line.input p.0) (input_line s ws p.0 f p.1))
stands_in s Output ws f = (let p = declares s Output slot.Next ws f in here (Some s) ws (line.output p.0) (output_line s ws p.0 f p.1))
stands_in s Wire ws f = (let p = declares s Wire slot.Fresh ws f in here (Some s) ws (line.wire p.0) (wire_line s ws p.0 f p.1))
stands_in s Register ws f = (let p = declares s Register slot.Fresh ws f in here (Some s) ws (line.register p.0) (register_line s ws p.0 f p.1))
stands_in s (Assign k) ws f =
    let r = some_side s k ws f in
    let a : Assignment = record { target = nth 1 ws; right = r.0 } in
    here (Some s) ws (line.assign a) (assign_line s k ws a f refl r.1)
stands_in s Always ws f = here (Some s) ws line.always (always_line s ws f)
stands_in s Update ws f =
    let u : Change = record { enable = nth 2 ws; target = nth 4 ws; source = nth 6 ws } in
    here (Some s) ws (line.update u) (update_line s ws u f refl refl refl)
stands_in s Done ws f = here (Some s) ws line.done (done_line s ws f)
stands_in s Finish ws f = here (Some s) ws line.finish (finish_line s ws f)

pub fitting_stands : (o : Option Source) (k : Kind) (ws : List Word) → Fits o (slots k) ws → Stands o ws
fitting_stands (Some s) k ws f = stands_in s k ws f
fitting_stands None Head ws f = here None ws (line.head (nth 1 ws)) (head_line ws f)
fitting_stands None Port ws f = absurd f.3.1
fitting_stands None Heading ws f = absurd f.3.1
fitting_stands None Input ws f = absurd f.3.1
fitting_stands None Output ws f = absurd f.3.1
fitting_stands None Wire ws f = absurd f.3.1
fitting_stands None Register ws f = absurd f.3.1
fitting_stands None (Assign k) ws f = absurd f.3.1
fitting_stands None Always ws f = absurd f.3.1
fitting_stands None Update ws f = absurd f.3.1
fitting_stands None Done ws f = absurd f.3.1
fitting_stands None Finish ws f = absurd f.3.1
