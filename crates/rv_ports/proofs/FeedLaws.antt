-- The inputs by what they carry have the widths of the ports and the values that are driven.
use Rattle.std.proofs.Common.{◌≡◌, ℕ, suc, ◌+◌, ◌-◌, ◌%◌, ◌^◌, ◌<◌, ◌≤◌, List, [], ◌∷◌, ◌++◌, map, Bool, true, false, refl, sym, ap, ◌∙◌, arith}
use Rattle.std.specs.List.{range_with_len}
use Rattle.std.proofs.lemmas.List.{append_assoc, map-append}
use Rattle.ix_graph.specs.declared.graph.Op.{Op}
use Rattle.ix_graph.specs.declared.role.Role.{Role}
use Rattle.ix_graph.specs.declared.role.Role.TheVariants as role
use Rattle.ix_graph.specs.Roles.{role_of}
use Rattle.ix_net.specs.declared.netlist.Port.{Port}
use Rattle.ix_plan.specs.declared.design.Plan.{Plan}
use Rattle.ix_ports.specs.Ports.{enable_port, enable_ports, input_ports, last_from, read_port, read_ports}
use Rattle.rv_core.specs.declared.Shape.{Shape}
use Rattle.rv_ports.specs.declared.feeds.Feed.{Feed}
use Rattle.rv_ports.specs.declared.modules.Module.{Module}
use Rattle.rv_ports.specs.declared.shown.Shown.{Shown}
use Rattle.rv_ports.specs.Feeds.{AreFeeds, Key, enable_key, enable_keys, feed_value, feed_width, key_of, keys_of, read_key, read_keys, value_of_key, width_of_key}
use Rattle.rv_ports.specs.Inputs.{bit, enable_value, enable_values, input_of, inputs_by, read_values}

-- Widths

enable_widths : (ts : List ℕ) → map width_of_key (map enable_key ts) ≡ map (λ (p : Port). p.width) (map enable_port ts)
enable_widths [] = refl
enable_widths (t ∷ ts) = ap (λ rest. 1 ∷ rest) (enable_widths ts)

read_width : (shape : Shape) (times : List ℕ) (k : ℕ) (op : Op) (r : Role) → map width_of_key (read_key shape times k op r) ≡ map (λ (p : Port). p.width) (read_port k op r)
read_width shape times k op role.Read = refl
read_width shape times k op role.Compute = refl
read_width shape times k op role.Write = refl

read_widths : (shape : Shape) (times : List ℕ) (k : ℕ) (ops : List Op) → map width_of_key (read_keys shape times k ops) ≡ map (λ (p : Port). p.width) (read_ports k ops)
read_widths shape times k [] = refl
read_widths shape times k (op ∷ ops) =
    map-append width_of_key (read_key shape times k op (role_of op.kind)) (read_keys shape times (k + 1) ops)
    ∙ ap (λ front. front ++ map width_of_key (read_keys shape times (k + 1) ops)) (read_width shape times k op (role_of op.kind))
    ∙ ap (λ rest. map (λ (p : Port). p.width) (read_port k op (role_of op.kind)) ++ rest) (read_widths shape times (k + 1) ops)
    ∙ sym (map-append (λ (p : Port). p.width) (read_port k op (role_of op.kind)) (read_ports (k + 1) ops))

widths_are : (shape : Shape) (p : Plan) → map width_of_key (keys_of shape p) ≡ map (λ (port : Port). port.width) (input_ports shape.rd p.graph.ops p.times)
widths_are shape p =
    map-append width_of_key (enable_keys shape.rd (last_from shape.rd p.times)) (read_keys shape p.times 0 p.graph.ops)
    ∙ ap (λ front. front ++ map width_of_key (read_keys shape p.times 0 p.graph.ops)) (enable_widths (range_with_len shape.rd (last_from shape.rd p.times - shape.rd)))
    ∙ ap (λ rest. map (λ (port : Port). port.width) (enable_ports shape.rd (last_from shape.rd p.times)) ++ rest) (read_widths shape p.times 0 p.graph.ops)
    ∙ sym (map-append (λ (port : Port). port.width) (enable_ports shape.rd (last_from shape.rd p.times)) (read_ports 0 p.graph.ops))

-- Values

bit_fits : (b : Bool) → bit b % 2 ^ 1 ≡ bit b
bit_fits true = refl
bit_fits false = refl

enables_are : (m : Module) (w : Shown) (ts : List ℕ) → map (value_of_key m w) (map enable_key ts) ≡ map (λ t. bit (enable_value m w t)) ts
enables_are m w [] = refl
enables_are m w (t ∷ ts) =
    ap (λ v. v ∷ map (value_of_key m w) (map enable_key ts)) (bit_fits (enable_value m w t)) ∙ ap (λ rest. bit (enable_value m w t) ∷ rest) (enables_are m w ts)

read_is : (m : Module) (w : Shown) (times : List ℕ) (k : ℕ) (op : Op) (r : Role) → map (value_of_key m w) (read_key m.shape times k op r) ≡ input_of m times w k op r
read_is m w times k op role.Read = refl
read_is m w times k op role.Compute = refl
read_is m w times k op role.Write = refl

reads_are : (m : Module) (w : Shown) (times : List ℕ) (k : ℕ) (ops : List Op) → map (value_of_key m w) (read_keys m.shape times k ops) ≡ read_values m times w k ops
reads_are m w times k [] = refl
reads_are m w times k (op ∷ ops) =
    map-append (value_of_key m w) (read_key m.shape times k op (role_of op.kind)) (read_keys m.shape times (k + 1) ops)
    ∙ ap (λ front. front ++ map (value_of_key m w) (read_keys m.shape times (k + 1) ops)) (read_is m w times k op (role_of op.kind))
    ∙ ap (λ rest. input_of m times w k op (role_of op.kind) ++ rest) (reads_are m w times (k + 1) ops)

values_are : (m : Module) (w : Shown) (p : Plan) → map (value_of_key m w) (keys_of m.shape p) ≡ inputs_by m p w
unfolding inputs_by
values_are m w p =
    map-append (value_of_key m w) (enable_keys m.shape.rd (last_from m.shape.rd p.times)) (read_keys m.shape p.times 0 p.graph.ops)
    ∙ ap (λ front. front ++ map (value_of_key m w) (read_keys m.shape p.times 0 p.graph.ops)) (enables_are m w (range_with_len m.shape.rd (last_from m.shape.rd p.times - m.shape.rd)))
    ∙ ap (λ rest. enable_values m p.times w ++ rest) (reads_are m w p.times 0 p.graph.ops)

-- Feeds

keyed_widths : (feeds : List Feed) → map feed_width feeds ≡ map width_of_key (map key_of feeds)
keyed_widths [] = refl
keyed_widths (f ∷ fs) = ap (λ rest. feed_width f ∷ rest) (keyed_widths fs)

keyed_values : (m : Module) (w : Shown) (feeds : List Feed) → map (feed_value m w) feeds ≡ map (value_of_key m w) (map key_of feeds)
keyed_values m w [] = refl
keyed_values m w (f ∷ fs) = ap (λ rest. feed_value m w f ∷ rest) (keyed_values m w fs)

pub feeds_are : (shape : Shape) (p : Plan) (feeds : List Feed) → map key_of feeds ≡ keys_of shape p → AreFeeds shape p feeds
feeds_are shape p feeds e =
    record {
      widths = keyed_widths feeds ∙ ap (map width_of_key) e ∙ widths_are shape p;
      values = λ m w same. keyed_values m w feeds ∙ ap (map (value_of_key m w)) e ∙ sym (ap (λ s. map (value_of_key m w) (keys_of s p)) same) ∙ values_are m w p;
    }

-- Loops

pub rd_le_last : (rd : ℕ) (ts : List ℕ) → rd ≤ last_from rd ts
rd_le_last rd [] = omega arith
rd_le_last rd (t ∷ ts) = (let h = rd_le_last rd ts in omega arith)

-- the enables that are put and those that are left, with one more put
pub enables_next :
    (xs ys : List Feed) (f : Feed) (e : List Key) (t last : ℕ) → t < last → ys ≡ xs ++ f ∷ [] → key_of f ≡ enable_key t → map key_of xs ++ map enable_key (range_with_len t (last - t)) ≡ e
    → map key_of ys ++ map enable_key (range_with_len (t + 1) (last - (t + 1))) ≡ e
enables_next xs ys f e t last l put h prev =
    let n : last - t ≡ suc (last - (t + 1)) = omega arith in
    ap (λ z. z ++ map enable_key (range_with_len (t + 1) (last - (t + 1)))) (ap (map key_of) put ∙ map-append key_of xs (f ∷ []) ∙ ap (λ k. map key_of xs ++ k ∷ []) h)
    ∙ append_assoc (map key_of xs) (enable_key t ∷ []) (map enable_key (range_with_len (t + 1) (last - (t + 1))))
    ∙ ap (λ z. map key_of xs ++ map enable_key (range_with_len t z)) (sym n) ∙ prev
