-- Banks that take over what a wire shows.
use Rattle.std.proofs.Common.{◌≡◌, ℕ, ◌+◌, ◌-◌, ◌<◌, ◌≤◌, ◌^◌, zero, suc, List, [], ◌∷◌, ◌++◌, Some, length, map, arith, refl, ap, sym, ◌∙◌, subst, All, Contains, ⊎_elim}
use Rattle.std.specs.Prelude.{slice_get}
use Rattle.std.proofs.lemmas.Bool.{cases_lt}
use Rattle.std.proofs.lemmas.Option.{same_Some}
use Rattle.std.proofs.lemmas.List.{append-nil, map-append, length-map, get_or-map, length_push}
use Rattle.std.proofs.lemmas.List.Elements.{Contains-append_left, Contains-append_right, Contains-push, All-push, All-weaker}
use Rattle.ix_net.specs.declared.netlist.Net.{Net}
use Rattle.ix_net.specs.declared.netlist.Bank.{Bank}
use Rattle.ix_net.specs.declared.netlist.Port.{Port}
use Rattle.ix_net.specs.Signals.{cell_port, bank_port}
use Rattle.ix_ports.specs.Ports.{enable_port}
use Rattle.ix_cells.specs.declared.signal.Signal.{Signal}
use Rattle.ix_cells.specs.declared.signal.Signal.TheVariants.{Register}
use Rattle.ix_cells.specs.declared.signal.Wire.{Wire}
use Rattle.ix_cells.specs.Naming.{name_of, code, Ascends, IsBounded}
use Rattle.ix_net.specs.Declarations.{Has}
use Rattle.ix_cells.specs.Growth.{AreWires, Extends, Adds}
use Rattle.ix_netgen.specs.Standing.{Timetable, Scene, Shows, Tells, HasEnable, IsRightBank, IsSound, Keeps, next_bank, with_bank, IsHeld, Holds, IsStored}
use Rattle.ix_cells.proofs.Growing.{has_grows, wire_grows, nodes_grow, explains_before, extends_on, extends_same}

-- what a net has as an input it declares
pub has_input : (net : Net) (q : Port) → Contains net.inputs q → Has net q.name q.width
has_input net q h = Contains-append_left (net.inputs ++ map cell_port net.cells) (map bank_port net.banks) q (Contains-append_left net.inputs (map cell_port net.cells) q h)

-- an enable stays an input
pub enable_grows : {old new : Net} → Extends old new → (t : ℕ) → HasEnable old t → HasEnable new t
enable_grows e t h = subst (λ (is : List Port). Contains is (enable_port t)) (sym e.inputs) h

pub scene_before : {p : Timetable} {old new : Net} {terms : ℕ → ℕ} {t : ℕ} {value : List ℕ → ℕ} → Extends old new → Scene p new terms t value → Scene p old terms t value
scene_before {p} {old} {new} {terms} {t} {value} e s = record {
  carried = s.carried;
  held = λ b k within bk bt named.
      (let P : List Bank → Type 0 = λ bs. Contains bs b in
      s.held b k (subst P (sym e.banks_are) (Contains-append_left old.banks e.banks b within)) bk bt named);
}

pub shows_grow : (p : Timetable) {old new : Net} → Extends old new → (t : ℕ) (s : Signal) (f : (ℕ → ℕ) → ℕ) → Shows p old t s f → Shows p new t s f
shows_grow p e t s f h terms means value width x scene = h terms means value width (explains_before e value width x) (scene_before e scene)

pub tells_grow : {p : Timetable} {old new : Net} {t : ℕ} {w : Wire} {f : (ℕ → ℕ) → ℕ} → Extends old new → Tells p old t w f → Tells p new t w f
tells_grow {p} {old} {new} {t} {w} {f} e h = record { wire = wire_grows e w h.wire; shows = shows_grow p e t w.signal f h.shows }

pub right_grows : {p : Timetable} {old new : Net} → Extends old new → (b : Bank) → IsRightBank p old b → IsRightBank p new b
right_grows {p} e b r = record {
  op = r.op;
  time = r.time;
  source = r.source;
  from_rd = r.from_rd;
  bounds = r.bounds;
  named = r.named;
  wide = r.wide;
  enabled = r.enabled;
  has_enable = enable_grows e r.time r.has_enable;
  fed = r.fed;
  has_source = has_grows e (name_of r.source) b.width r.has_source;
  stands = shows_grow p e r.time r.source (λ terms. terms r.op) r.stands;
}

-- cells that were added keep what is kept
pub adds_keeps : {p : Timetable} {needs : List Wire} {old new : Net} {r : Wire} {w : ℕ} {f : (Signal → ℕ) → ℕ} → AreWires old needs → Adds needs old new r w f → Keeps p old new
adds_keeps {p} {needs} {old} {new} wires a = record {
  extends = a.extends;
  sound = λ hi s.
      (let P : List Bank → Type 0 = λ bs. All (IsRightBank p new) bs in
      let Q : List Bank → Type 0 = λ bs. Ascends (code (Register 0 0)) hi (map (λ (b : Bank). b.target) bs) in
      record {
        nodes = (a.sound s.nodes wires).0;
        banks = subst P (sym a.same_banks) (All-weaker (IsRightBank p old) (IsRightBank p new) (right_grows a.extends) old.banks s.banks);
        bank_names = subst Q (sym a.same_banks) s.bank_names;
        no_outputs = a.same_outputs ∙ s.no_outputs;
      });
}

pub keeps_same : (p : Timetable) (net : Net) → Keeps p net net
keeps_same p net = record { extends = extends_same net; sound = λ hi s. s }

pub keeps_on : {p : Timetable} {a b c : Net} → Keeps p a b → Keeps p b c → Keeps p a c
keeps_on x y = record { extends = extends_on x.extends y.extends; sound = λ hi s. y.sound hi (x.sound hi s) }

-- names in order, and one more
pub ascends_push : (lo hi : ℕ) (xs : List (List ℕ)) (s : Signal) → Ascends lo hi xs → IsBounded s → hi ≤ code s → Ascends lo (code s + 1) (xs ++ name_of s ∷ [])
ascends_push lo hi [] s h b l = (s, refl, b, omega (arith, h), omega arith)
ascends_push lo hi (x ∷ xs) s h b l = (h.0, h.1, h.2, h.3, ascends_push (code h.0 + 1) hi xs s h.4 b l)

pub ascends_more : (lo hi up : ℕ) (xs : List (List ℕ)) → Ascends lo hi xs → hi ≤ up → Ascends lo up xs
ascends_more lo hi up [] h l = omega (arith, h)
ascends_more lo hi up (x ∷ xs) h l = (h.0, h.1, h.2, h.3, ascends_more (code h.0 + 1) hi up xs h.4 l)

bank_extends : (old : Net) (k t : ℕ) (w : Wire) → Extends old (with_bank old (next_bank k t w))
bank_extends old k t w = record {
  named = refl;
  inputs = refl;
  cells = [];
  cells_are = sym (append-nil old.cells);
  banks = next_bank k t w ∷ [];
  banks_are = refl;
}

module _ (p : Timetable) (old : Net) (k t : ℕ) (w : Wire) where
  grown : Extends old (with_bank old (next_bank k t w))
  grown = bank_extends old k t w

  has_next : Has (with_bank old (next_bank k t w)) (name_of (Register k (t + 1))) w.width
  has_next =
      Contains-append_right (old.inputs ++ map cell_port old.cells) (map bank_port (old.banks ++ next_bank k t w ∷ [])) (bank_port (next_bank k t w))
      (mapped (old.banks ++ next_bank k t w ∷ []) (next_bank k t w) (Contains-push old.banks (next_bank k t w)))
    where
      mapped : (bs : List Bank) (b : Bank) → Contains bs b → Contains (map bank_port bs) (bank_port b)
      mapped bs b g = (g.0, omega (arith, length-map bs bank_port, g.1), get_or-map bank_port bs g.0 b (bank_port b) g.1 ∙ ap bank_port g.2)

  pub bank_tells : k < 2 ^ 64 → t + 1 < 2 ^ 64 → Tells p old t w (λ terms. terms k) → Tells p (with_bank old (next_bank k t w)) (t + 1) (record { signal = Register k (t + 1); width = w.width }) (λ terms. terms k)
  unfolding name_of
  bank_tells bk bt h = record {
    wire = record { has = has_next; known = tt; bounded = (bk, bt); wide = h.wire.wide };
    shows = λ terms means value width x scene. scene.held (next_bank k t w) k (Contains-push old.banks (next_bank k t w)) bk bt refl;
  }

  pub bank_sound :
      (hi : ℕ) → k < 2 ^ 64 → t + 1 < 2 ^ 64 → p.shape.rd ≤ t → HasEnable old t → Tells p old t w (λ terms. terms k) → hi ≤ code (Register k (t + 1))
      → IsSound p hi old → IsSound p (code (Register k (t + 1)) + 1) (with_bank old (next_bank k t w))
  unfolding name_of
  bank_sound hi bk bt rd enable h l s =
      let right : IsRightBank p (with_bank old (next_bank k t w)) (next_bank k t w) =
      record {
        op = k;
        time = t;
        source = w.signal;
        from_rd = rd;
        bounds = (bk, bt);
        named = refl;
        wide = h.wire.wide;
        enabled = refl;
        has_enable = enable_grows grown t enable;
        fed = refl;
        has_source = has_grows grown (name_of w.signal) w.width h.wire.has;
        stands = shows_grow p grown t w.signal (λ terms. terms k) h.shows;
      } in
      let P : List (List ℕ) → Type 0 = λ ns. Ascends (code (Register 0 0)) (code (Register k (t + 1)) + 1) ns in
      record {
        nodes = nodes_grow grown 0 old.cells s.nodes;
        banks = All-push (IsRightBank p (with_bank old (next_bank k t w))) old.banks (next_bank k t w)
            (All-weaker (IsRightBank p old) (IsRightBank p (with_bank old (next_bank k t w))) (right_grows grown) old.banks s.banks) right;
        bank_names = subst P (sym (map-append (λ (b : Bank). b.target) old.banks (next_bank k t w ∷ [])))
            (ascends_push (code (Register 0 0)) hi (map (λ (b : Bank). b.target) old.banks) (Register k (t + 1)) s.bank_names (bk, bt) l);
        no_outputs = s.no_outputs;
      }

pub slice_get-left : {X : Type 0} (xs ys : List X) (k : ℕ) (x : X) → slice_get xs k ≡ Some x → slice_get (xs ++ ys) k ≡ Some x
slice_get-left [] ys k x h = absurd (cc)
slice_get-left (y ∷ xs) ys zero x h = h
slice_get-left (y ∷ xs) ys (suc k) x h = slice_get-left xs ys k x h

pub slice_get-last : {X : Type 0} (xs : List X) (x : X) → slice_get (xs ++ x ∷ []) (length xs) ≡ Some x
slice_get-last [] x = refl
slice_get-last (y ∷ xs) x = slice_get-last xs x

pub holds_first : (k : ℕ) (w : Wire) (from : ℕ) (net : Net) → Holds k w from from net net (w ∷ [])
unfolding code
holds_first k w from net = record {
  extends = extends_same net;
  same_cells = refl;
  count = refl;
  held = λ p hi rd bk few enables tells sound l. (
    record {
      nodes = sound.nodes;
      banks = sound.banks;
      bank_names = ascends_more (code (Register 0 0)) hi (code (Register k from) + 1) (map (λ (b : Bank). b.target) net.banks) sound.bank_names (omega arith);
      no_outputs = sound.no_outputs;
    },
    λ t a b.
        (let at : t ≡ from = omega arith in
        let z : t - from ≡ 0 = omega arith in
        let T : ℕ → Type 0 = λ u. Tells p net u w (λ terms. terms k) in
        let here : slice_get (w ∷ []) (t - from) ≡ Some w = ap (slice_get (w ∷ [])) z in
        record { wire = w; at = here; tells = subst T (sym at) tells; wide = refl }),
  );
}

pub holds_next :
    (k : ℕ) (w : Wire) (from t : ℕ) (old mid new : Net) (ws : List Wire) (cur next : Wire) → from ≤ t → t + 1 < 2 ^ 64
    → Holds k w from t old mid ws → slice_get ws (t - from) ≡ Some cur → IsStored mid new k t cur next
    → Holds k w from (t + 1) old new (ws ++ next ∷ [])
unfolding code
holds_next k w from t old mid new ws cur next low bt h at stored =
    let A : Net → Type 0 = λ n. Holds k w from (t + 1) old n (ws ++ next ∷ []) in
    let B : Wire → Type 0 = λ x. Holds k w from (t + 1) old (with_bank mid (next_bank k t cur)) (ws ++ x ∷ []) in
    subst A (sym stored.net) (subst B (sym stored.wire) made)
  where
    x : Wire
    x = record { signal = Register k (t + 1); width = cur.width }

    grows : Extends mid (with_bank mid (next_bank k t cur))
    grows = bank_extends mid k t cur

    size : from + length ws ≡ t + 1
    size = h.count

    made : Holds k w from (t + 1) old (with_bank mid (next_bank k t cur)) (ws ++ x ∷ [])
    made = record {
      extends = extends_on h.extends grows;
      same_cells = h.same_cells;
      count = (let e = length_push ws x in omega (arith, size, e));
      held = λ p hi rd bk few enables tells sound l.
          (let prev = h.held p hi rd bk (omega arith) (λ u a b. enables u a (omega arith)) tells sound l in
          let now : IsHeld p mid k from t w.width ws = prev.1 t low (omega arith) in
          let same : now.wire ≡ cur = same_Some now.wire cur (sym now.at ∙ at) in
          let T : Wire → Type 0 = λ y. Tells p mid t y (λ terms. terms k) in
          let told : Tells p mid t cur (λ terms. terms k) = subst T same now.tells in
          let enable = enable_grows h.extends t (enables t low (omega arith)) in
          let wide : cur.width ≡ w.width = ap (λ (y : Wire). y.width) (sym same) ∙ now.wide in (
            bank_sound p mid k t cur (code (Register k t) + 1) bk bt (omega arith) enable told (omega arith) prev.0,
            λ u a b. ⊎_elim
                (λ (before : u < t + 1). (let r : IsHeld p mid k from u w.width ws = prev.1 u a (omega arith) in
                let g : IsHeld p (with_bank mid (next_bank k t cur)) k from u w.width (ws ++ x ∷ []) =
                record { wire = r.wire; at = slice_get-left ws (x ∷ []) (u - from) r.wire r.at; tells = tells_grow grows r.tells; wide = r.wide } in g))
                (λ (here : t + 1 ≤ u). (let e : u ≡ t + 1 = omega arith in
                let i : length ws ≡ u - from = omega (arith, size) in
                let U : ℕ → Type 0 = λ v. Tells p (with_bank mid (next_bank k t cur)) v x (λ terms. terms k) in
                let r : IsHeld p (with_bank mid (next_bank k t cur)) k from u w.width (ws ++ x ∷ []) =
                record { wire = x; at = ap (slice_get (ws ++ x ∷ [])) (sym i) ∙ slice_get-last ws x; tells = subst U (sym e) (bank_tells p mid k t cur bk bt told); wide = wide } in r))
                (cases_lt u (t + 1)),
          ));
    }

-- the wire at the last time is the last wire
pub last_wire : (from t : ℕ) (ws : List Wire) (next : Wire) → from ≤ t → from + length ws ≡ t + 1 → slice_get (ws ++ next ∷ []) (t + 1 - from) ≡ Some next
last_wire from t ws next l size = (let i : length ws ≡ t + 1 - from = omega arith in ap (slice_get (ws ++ next ∷ [])) (sym i) ∙ slice_get-last ws next)
