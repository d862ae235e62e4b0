-- Lines that may stand fit the slots of a kind.
use Rattle.std.proofs.Common.{◌≡◌, ◌⊎◌, List, [], ◌∷◌, ◌++◌, refl, inl, inr, arith, Option, Some, None}
use Rattle.std.specs.Prelude.{Contains}
use Rattle.ix_net.specs.declared.netlist.Port.{Port as DeclaredPort}
use Rattle.ix_verilog.specs.declared.right.Sign.{Sign}
use Rattle.ix_verilog.specs.declared.right.Sign.TheVariants.{Plus, Minus, Times, And, Or, Xor, Equal, Less}
use Rattle.ix_verilog.specs.declared.right.RightSide.{RightSide}
use Rattle.ix_verilog.specs.declared.right.RightSide.TheVariants as side
use Rattle.ix_verilog.specs.declared.source.Source.{Source}
use Rattle.ix_verilog.specs.declared.source.Assign.{Assign as Assignment}
use Rattle.ix_verilog.specs.declared.source.Update.{Update as Change}
use Rattle.ix_verilog.specs.declared.source.Stage.{Stage}
use Rattle.ix_verilog.specs.declared.source.Stage.TheVariants.{Ports, Lines, Clocked, Ended}
use Rattle.ix_verilog.specs.Words.{Word}
use Rattle.ix_verilog.specs.Lines as line
use Rattle.ix_verilog.specs.Lines.{Line, line_words, right_words, sign_word, operators, IsRight}
use Rattle.ix_verilog.specs.Subset.{MayStand, MayStandIn, IsShortName, IsOperand, IsDriven, HasPorts}
use Rattle.ix_vline.specs.declared.kind.Kind.{Kind}
use Rattle.ix_vline.specs.declared.kind.Kind.TheVariants.{Head, Port, Heading, Input, Output, Wire, Register, Assign, Always, Update, Done, Finish}
use Rattle.ix_vline.specs.declared.kind.Right.{Right}
use Rattle.ix_vline.specs.declared.kind.Right.TheVariants as right
use Rattle.ix_vline.specs.Slots.{slots, right_slots}
use Rattle.ix_vline.specs.Reached.{Fits}

port_at : (s : Source) (stage : Stage) (n : Word) → MayStandIn s stage (line.port n) → (stage ≡ Ports) × IsShortName n
port_at s Ports n h = (refl, h)
port_at s Lines n h = absurd h
port_at s Clocked n h = absurd h
port_at s Ended n h = absurd h

heading_at : (s : Source) (stage : Stage) → MayStandIn s stage line.heading → stage ≡ Ports
heading_at s Ports h = refl
heading_at s Lines h = absurd h
heading_at s Clocked h = absurd h
heading_at s Ended h = absurd h

input_at : (s : Source) (stage : Stage) (p : DeclaredPort) → MayStandIn s stage (line.input p) → (stage ≡ Lines) × MayStandIn s Lines (line.input p)
input_at s Ports p h = absurd h
input_at s Lines p h = (refl, h)
input_at s Clocked p h = absurd h
input_at s Ended p h = absurd h

output_at : (s : Source) (stage : Stage) (p : DeclaredPort) → MayStandIn s stage (line.output p) → (stage ≡ Lines) × MayStandIn s Lines (line.output p)
output_at s Ports p h = absurd h
output_at s Lines p h = (refl, h)
output_at s Clocked p h = absurd h
output_at s Ended p h = absurd h

wire_at : (s : Source) (stage : Stage) (p : DeclaredPort) → MayStandIn s stage (line.wire p) → (stage ≡ Lines) × MayStandIn s Lines (line.wire p)
wire_at s Ports p h = absurd h
wire_at s Lines p h = (refl, h)
wire_at s Clocked p h = absurd h
wire_at s Ended p h = absurd h

register_at : (s : Source) (stage : Stage) (p : DeclaredPort) → MayStandIn s stage (line.register p) → (stage ≡ Lines) × MayStandIn s Lines (line.register p)
register_at s Ports p h = absurd h
register_at s Lines p h = (refl, h)
register_at s Clocked p h = absurd h
register_at s Ended p h = absurd h

assign_at : (s : Source) (stage : Stage) (a : Assignment) → MayStandIn s stage (line.assign a) → (stage ≡ Lines) × MayStandIn s Lines (line.assign a)
assign_at s Ports a h = absurd h
assign_at s Lines a h = (refl, h)
assign_at s Clocked a h = absurd h
assign_at s Ended a h = absurd h

always_at : (s : Source) (stage : Stage) → MayStandIn s stage line.always → (stage ≡ Lines) × MayStandIn s Lines line.always
always_at s Ports h = absurd h
always_at s Lines h = (refl, h)
always_at s Clocked h = absurd h
always_at s Ended h = absurd h

update_at : (s : Source) (stage : Stage) (u : Change) → MayStandIn s stage (line.update u) → (stage ≡ Clocked) × MayStandIn s Clocked (line.update u)
update_at s Ports u h = absurd h
update_at s Lines u h = absurd h
update_at s Clocked u h = (refl, h)
update_at s Ended u h = absurd h

done_at : (s : Source) (stage : Stage) → MayStandIn s stage line.done → stage ≡ Clocked
done_at s Ports h = absurd h
done_at s Lines h = absurd h
done_at s Clocked h = refl
done_at s Ended h = absurd h

finish_at : (s : Source) (stage : Stage) → MayStandIn s stage line.finish → ((stage ≡ Lines) × HasPorts s × IsDriven s) ⊎ ((stage ≡ Ended) × IsDriven s)
finish_at s Ports h = absurd h
finish_at s Lines h = inl (refl, h.0, h.1)
finish_at s Clocked h = absurd h
finish_at s Ended h = inr (refl, h)

head_out : (s : Source) (stage : Stage) (n : Word) → MayStandIn s stage (line.head n) → ⊥
head_out s Ports n h = h
head_out s Lines n h = h
head_out s Clocked n h = h
head_out s Ended n h = h

-- the words of a right side and the end of the line
record FitsRight (s : Source) (ws : List Word) : Type 0 where
  pub kind : Right
  pub fits : Fits (Some s) (right_slots kind) (ws ++ (59 ∷ []) ∷ [])

sign_operator : (s : Sign) → Contains operators (sign_word s)
sign_operator Plus = (0, omega arith, refl)
sign_operator Minus = (1, omega arith, refl)
sign_operator Times = (2, omega arith, refl)
sign_operator And = (3, omega arith, refl)
sign_operator Or = (4, omega arith, refl)
sign_operator Xor = (5, omega arith, refl)
sign_operator Equal = (6, omega arith, refl)
sign_operator Less = (7, omega arith, refl)

right_fits : (s : Source) (r : RightSide) → IsRight (IsOperand s) r → FitsRight s (right_words r)
right_fits s (side.Literal w) l = record { kind = right.Literal; fits = (_, _, refl, l, (_, _, refl, refl, refl)) }
right_fits s (side.Copy a) h = record { kind = right.Copy; fits = (_, _, refl, h, (_, _, refl, refl, refl)) }
right_fits s (side.Both o a b) h = record { kind = right.Both; fits = (_, _, refl, h.0, (_, _, refl, sign_operator o, (_, _, refl, h.1, (_, _, refl, refl, refl)))) }
right_fits s (side.Turned a) h = record { kind = right.Turned; fits = (_, _, refl, refl, (_, _, refl, h, (_, _, refl, refl, refl))) }
right_fits s (side.Signed a b) h = record { kind = right.Signed; fits = (_, _, refl, refl, (_, _, refl, refl, (_, _, refl, h.0, (_, _, refl, refl, (_, _, refl, refl, (_, _, refl, refl, (_, _, refl, refl, (_, _, refl, h.1, (_, _, refl, refl, (_, _, refl, refl, refl)))))))))) }
right_fits s (side.Joined a b) h = record { kind = right.Joined; fits = (_, _, refl, refl, (_, _, refl, h.0, (_, _, refl, refl, (_, _, refl, h.1, (_, _, refl, refl, (_, _, refl, refl, refl)))))) }
right_fits s (side.Range a h l) k = record { kind = right.Range; fits = (_, _, refl, k.0, (_, _, refl, refl, (_, _, refl, k.1, (_, _, refl, refl, (_, _, refl, k.2, (_, _, refl, refl, (_, _, refl, refl, refl))))))) }
right_fits s (side.Choice c a b) h = record { kind = right.Choice; fits = (_, _, refl, h.0, (_, _, refl, refl, (_, _, refl, h.1, (_, _, refl, refl, (_, _, refl, h.2, (_, _, refl, refl, refl)))))) }

-- a line fits a kind
abbrev FitsKind : Option Source → Line → Type 0
FitsKind o l = (k : Kind) × Fits o (slots k) (line_words l)

fits_in : (s : Source) (l : Line) → MayStandIn s s.stage l → FitsKind (Some s) l
fits_in s (line.head n) h = absurd (head_out s s.stage n h)
fits_in s (line.port n) h = (let a = port_at s s.stage n h in (Port, (_, _, refl, (refl, a.0), (_, _, refl, a.1, refl))))
fits_in s line.heading h = (Heading, (_, _, refl, (refl, heading_at s s.stage h), (_, _, refl, refl, (_, _, refl, refl, (_, _, refl, refl, (_, _, refl, refl, refl))))))
fits_in s (line.input p) h =
    let a = input_at s s.stage p h in
    (Input, (_, _, refl, (refl, (a.0, (p.name, a.1.0), a.1.2)), (_, _, refl, refl, (_, _, refl, (p.width, a.1.1, refl), (_, _, refl, refl, (_, _, refl, refl, (_, _, refl, refl, (_, _, refl, a.1.0, (_, _, refl, refl, refl)))))))))
fits_in s (line.output p) h =
    let a = output_at s s.stage p h in
    (Output, (_, _, refl, (refl, (a.0, (p.name, a.1.0))), (_, _, refl, refl, (_, _, refl, (p.width, a.1.1, refl), (_, _, refl, refl, (_, _, refl, refl, (_, _, refl, refl, (_, _, refl, a.1.0, (_, _, refl, refl, refl)))))))))
fits_in s (line.wire p) h =
    let a = wire_at s s.stage p h in
    (Wire, (_, _, refl, (refl, (a.0, a.1.0, a.1.2, a.1.3)), (_, _, refl, refl, (_, _, refl, (p.width, a.1.1.1, refl), (_, _, refl, refl, (_, _, refl, refl, (_, _, refl, refl, (_, _, refl, a.1.1.0, (_, _, refl, refl, refl)))))))))
fits_in s (line.register p) h =
    let a = register_at s s.stage p h in
    (Register, (_, _, refl, (refl, (a.0, a.1.0, a.1.2)), (_, _, refl, refl, (_, _, refl, (p.width, a.1.1.1, refl), (_, _, refl, refl, (_, _, refl, refl, (_, _, refl, refl, (_, _, refl, a.1.1.0, (_, _, refl, refl, refl)))))))))
fits_in s (line.assign a) h =
    let b = assign_at s s.stage a h in
    let r = right_fits s a.right b.1.2 in
    (Assign r.kind, (_, _, refl, (refl, (b.0, b.1.0, (a.target, b.1.1))), (_, _, refl, b.1.1, (_, _, refl, refl, r.fits))))
fits_in s line.always h =
    let a = always_at s s.stage h in
    (Always, (_, _, refl, (refl, (a.0, a.1.0, a.1.1)), (_, _, refl, refl, (_, _, refl, refl, (_, _, refl, refl, (_, _, refl, refl, (_, _, refl, refl, (_, _, refl, refl, refl))))))))
fits_in s (line.update u) h =
    let a = update_at s s.stage u h in
    (Update, (_, _, refl, (refl, (a.0, (u.target, a.1.1))), (_, _, refl, refl, (_, _, refl, a.1.0, (_, _, refl, refl, (_, _, refl, a.1.1, (_, _, refl, refl, (_, _, refl, a.1.2, (_, _, refl, refl, refl)))))))))
fits_in s line.done h = (Done, (_, _, refl, (refl, done_at s s.stage h), refl))
fits_in s line.finish h = (Finish, (_, _, refl, (refl, finish_at s s.stage h), refl))

pub lines_fit : (o : Option Source) (l : Line) → MayStand o l → FitsKind o l
lines_fit (Some s) l h = fits_in s l h
lines_fit None (line.head n) h = (Head, (_, _, refl, (refl, tt), (_, _, refl, h, (_, _, refl, refl, (_, _, refl, refl, refl)))))
lines_fit None (line.port n) h = absurd h
lines_fit None line.heading h = absurd h
lines_fit None (line.input p) h = absurd h
lines_fit None (line.output p) h = absurd h
lines_fit None (line.wire p) h = absurd h
lines_fit None (line.register p) h = absurd h
lines_fit None (line.assign a) h = absurd h
lines_fit None line.always h = absurd h
lines_fit None (line.update u) h = absurd h
lines_fit None line.done h = absurd h
lines_fit None line.finish h = absurd h
