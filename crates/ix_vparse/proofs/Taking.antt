-- Lines that are taken.
use Rattle.std.proofs.Common.{◌≡◌, ℕ, ◌-◌, ◌<◌, ◌≤◌, List, [], ◌∷◌, ◌++◌, length, take, drop, get_or, ap, sym, ◌∙◌, subst, arith, Option, Some, None}
use Rattle.std.specs.Prelude.{Result, Ok, Err, OnOk}
use Rattle.std.proofs.lemmas.List.{take-map, drop-map, take_all, length-drop, get_or-map, length-map}
use Rattle.std.proofs.lemmas.Option.{same_Some}
use Rattle.ix_net.specs.declared.netlist.Port.{Port as DeclaredPort}
use Rattle.ix_verilog.specs.declared.source.Source.{Source}
use Rattle.ix_verilog.specs.declared.source.Assign.{Assign as Assignment}
use Rattle.ix_verilog.specs.declared.source.Update.{Update as Change}
use Rattle.ix_verilog.specs.declared.token.Token.{Token}
use Rattle.ix_verilog.specs.Words.{Word, words_of}
use Rattle.ix_verilog.specs.Lines as line
use Rattle.ix_verilog.specs.Lines.{Line, line_words}
use Rattle.ix_verilog.specs.Subset.{State, fresh}
use Rattle.ix_vline.specs.declared.kind.Kind.{Kind}
use Rattle.ix_vline.specs.declared.kind.Kind.TheVariants.{Head, Port, Heading, Input, Output, Wire, Register, Assign, Always, Update, Done, Finish}
use Rattle.ix_vline.specs.declared.kind.Right.{Right}
use Rattle.ix_vline.specs.declared.kind.Right.TheVariants as right
use Rattle.ix_vline.specs.declared.kind.Slot.{Slot}
use Rattle.ix_vline.specs.Slots.{slots, declaring, IsHighest}
use Rattle.ix_vline.specs.Reached.{Fits}
use Rattle.ix_vline.specs.Picked.{nth, IsDeclaredBy, IsSideOf}
use Rattle.ix_vline.proofs.Fitting.{picks_are, fits_length}
use Rattle.ix_vline.proofs.KindLines.{head_line, port_line, heading_line, input_line, output_line, wire_line, register_line, assign_line, always_line, update_line, done_line, finish_line}
use Rattle.ix_vform.specs.Added.{added}
use Rattle.ix_vparse.specs.Taken.{Goes, Steps}

pub took_head : (o : Option Source) (ws : List Word) (n : Word) (next : Option Source) → Fits o (slots Head) ws → n ≡ nth 1 ws → next ≡ Some (fresh n) → Goes o ws next
took_head (Some s) ws n next f e k = absurd f.3.1
took_head None ws n next f e k =
    let h = head_line ws f in
    record {
      line = line.head (nth 1 ws);
      may = h.0;
      are = h.1;
      leads = λ ms. (let g : Some (fresh (nth 1 ws)) ≡ next = ap (λ (z : Word). Some (fresh z)) (sym e) ∙ sym k in
          ap (λ (z : Option Source). let r : State = record { modules = ms; open_module = z } in r) g);
    }

pub took_port : (o : Option Source) (ws : List Word) (n : Word) (next : Option Source) → Fits o (slots Port) ws → n ≡ nth 1 ws → next ≡ added o (line.port n) → Goes o ws next
took_port None ws n next f e k = absurd f.3.1
took_port (Some s) ws n next f e k =
    let h = port_line s ws f in
    let g : added (Some s) (line.port (nth 1 ws)) ≡ next = ap (λ (z : Word). added (Some s) (line.port z)) (sym e) ∙ sym k in
    record { line = line.port (nth 1 ws); may = h.0; are = h.1; leads = λ ms. ap (λ (z : Option Source). let r : State = record { modules = ms; open_module = z } in r) g }

pub took_heading : (o : Option Source) (ws : List Word) (next : Option Source) → Fits o (slots Heading) ws → next ≡ added o line.heading → Goes o ws next
took_heading None ws next f k = absurd f.3.1
took_heading (Some s) ws next f k =
    let h = heading_line s ws f in
    record { line = line.heading; may = h.0; are = h.1; leads = λ ms. ap (λ (z : Option Source). let r : State = record { modules = ms; open_module = z } in r) (sym k) }

pub took_input : (o : Option Source) (ws : List Word) (p : DeclaredPort) (next : Option Source) → Fits o (slots Input) ws → IsDeclaredBy ws p → next ≡ added o (line.input p) → Goes o ws next
took_input None ws p next f d k = absurd f.3.1
took_input (Some s) ws p next f d k =
    let h = input_line s ws p f d in
    record { line = line.input p; may = h.0; are = h.1; leads = λ ms. ap (λ (z : Option Source). let r : State = record { modules = ms; open_module = z } in r) (sym k) }

pub took_output : (o : Option Source) (ws : List Word) (p : DeclaredPort) (next : Option Source) → Fits o (slots Output) ws → IsDeclaredBy ws p → next ≡ added o (line.output p) → Goes o ws next
took_output None ws p next f d k = absurd f.3.1
took_output (Some s) ws p next f d k =
    let h = output_line s ws p f d in
    record { line = line.output p; may = h.0; are = h.1; leads = λ ms. ap (λ (z : Option Source). let r : State = record { modules = ms; open_module = z } in r) (sym k) }

pub took_wire : (o : Option Source) (ws : List Word) (p : DeclaredPort) (next : Option Source) → Fits o (slots Wire) ws → IsDeclaredBy ws p → next ≡ added o (line.wire p) → Goes o ws next
took_wire None ws p next f d k = absurd f.3.1
took_wire (Some s) ws p next f d k =
    let h = wire_line s ws p f d in
    record { line = line.wire p; may = h.0; are = h.1; leads = λ ms. ap (λ (z : Option Source). let r : State = record { modules = ms; open_module = z } in r) (sym k) }

pub took_register : (o : Option Source) (ws : List Word) (p : DeclaredPort) (next : Option Source) → Fits o (slots Register) ws → IsDeclaredBy ws p → next ≡ added o (line.register p) → Goes o ws next
took_register None ws p next f d k = absurd f.3.1
took_register (Some s) ws p next f d k =
    let h = register_line s ws p f d in
    record { line = line.register p; may = h.0; are = h.1; leads = λ ms. ap (λ (z : Option Source). let r : State = record { modules = ms; open_module = z } in r) (sym k) }

pub took_assign : (o : Option Source) (k : Right) (ws : List Word) (a : Assignment) (next : Option Source) → Fits o (slots (Assign k)) ws → a.target ≡ nth 1 ws → IsSideOf k ws a.right
    → next ≡ added o (line.assign a) → Goes o ws next
took_assign None k ws a next f t r e = absurd f.3.1
took_assign (Some s) k ws a next f t r e =
    let h = assign_line s k ws a f t r in
    record { line = line.assign a; may = h.0; are = h.1; leads = λ ms. ap (λ (z : Option Source). let q : State = record { modules = ms; open_module = z } in q) (sym e) }

pub took_always : (o : Option Source) (ws : List Word) (next : Option Source) → Fits o (slots Always) ws → next ≡ added o line.always → Goes o ws next
took_always None ws next f k = absurd f.3.1
took_always (Some s) ws next f k =
    let h = always_line s ws f in
    record { line = line.always; may = h.0; are = h.1; leads = λ ms. ap (λ (z : Option Source). let r : State = record { modules = ms; open_module = z } in r) (sym k) }

pub took_update : (o : Option Source) (ws : List Word) (u : Change) (next : Option Source) → Fits o (slots Update) ws → u.enable ≡ nth 2 ws → u.target ≡ nth 4 ws → u.source ≡ nth 6 ws → next ≡ added o (line.update u) → Goes o ws next
took_update None ws u next f a b c k = absurd f.3.1
took_update (Some s) ws u next f a b c k =
    let h = update_line s ws u f a b c in
    record { line = line.update u; may = h.0; are = h.1; leads = λ ms. ap (λ (z : Option Source). let r : State = record { modules = ms; open_module = z } in r) (sym k) }

pub took_done : (o : Option Source) (ws : List Word) (next : Option Source) → Fits o (slots Done) ws → next ≡ added o line.done → Goes o ws next
took_done None ws next f k = absurd f.3.1
took_done (Some s) ws next f k =
    let h = done_line s ws f in
    record { line = line.done; may = h.0; are = h.1; leads = λ ms. ap (λ (z : Option Source). let r : State = record { modules = ms; open_module = z } in r) (sym k) }

pub took_finish : (o next : Option Source) (s : Source) (ws : List Word) (ms more : List Source) → Fits o (slots Finish) ws → o ≡ Some s → next ≡ None → more ≡ ms ++ s ∷ [] → Steps o ms ws next more
took_finish None next s ws ms more f e k m = absurd f.3.1
took_finish (Some t) next s ws ms more f e k m =
    let h = finish_line t ws f in
    let g : t ≡ s = same_Some t s e in
    record {
      line = line.finish;
      may = h.0;
      are = h.1;
      leads =
          ap (λ (z : Source). let r : State = record { modules = ms ++ z ∷ []; open_module = None } in r) g
          ∙ ap (λ (z : List Source). let r : State = record { modules = z; open_module = None } in r) (sym m)
          ∙ ap (λ (z : Option Source). let r : State = record { modules = more; open_module = z } in r) (sym k);
    }

pub no_finish : (o : Option Source) (ws : List Word) → Fits o (slots Finish) ws → o ≡ None → ⊥
no_finish None ws f e = f.3.1
no_finish (Some s) ws f e = (let h : Some s ≡ None = e in cc)

pub inner_step : (o next : Option Source) (ws : List Word) (ms : List Source) → Goes o ws next → Steps o ms ws next ms
inner_step o next ws ms g = record { line = g.line; may = g.may; are = g.are; leads = g.leads ms }

-- ---- the words of tokens
-- the word of the token at a place
pub word_at : (ts : List Token) (i : ℕ) (t : Token) → t ≡ get_or ts i t → i < length ts → nth i (words_of ts) ≡ t.word
word_at ts i t e l = get_or-map (λ (x : Token). x.word) ts i t [] l ∙ sym (ap (λ (x : Token). x.word) e)

pub count_words : (ts : List Token) → length (words_of ts) ≡ length ts
count_words ts = length-map ts (λ (t : Token). t.word)

pub part_words : (ts : List Token) (i n : ℕ) → words_of (take n (drop i ts)) ≡ take n (drop i (words_of ts))
part_words ts i n = sym (take-map (λ (t : Token). t.word) n (drop i ts)) ∙ ap (take n) (sym (drop-map (λ (t : Token). t.word) i ts))

-- the number of the highest bit in a declaration
pub declaring_length : (o : Option Source) (k : Kind) (name : Slot) (ts : List Token) → Fits o (declaring k name) (words_of ts) → length ts ≡ 8
declaring_length o k name ts f = sym (count_words ts) ∙ fits_length o (declaring k name) (words_of ts) f

pub declaring_highest : (o : Option Source) (k : Kind) (name : Slot) (ws : List Word) → Fits o (declaring k name) ws → IsHighest (nth 2 ws)
declaring_highest o k name ws f = subst IsHighest (sym (ap (nth 2) (picks_are o (declaring k name) ws f))) f.4.4.3

-- a right side has a word at least
pub assign_length : (o : Option Source) (k : Right) (ts : List Token) → Fits o (slots (Assign k)) (words_of ts) → 5 ≤ length ts
assign_length o k ts f = (let e = fits_length o (slots (Assign k)) (words_of ts) f in let c = count_words ts in let m = least k in omega (arith, e, c, m))
  where
    least : (r : Right) → 5 ≤ length (slots (Assign r))
    least right.Literal = omega arith
    least right.Copy = omega arith
    least right.Both = omega arith
    least right.Turned = omega arith
    least right.Signed = omega arith
    least right.Joined = omega arith
    least right.Range = omega arith
    least right.Choice = omega arith

pub update_length : (o : Option Source) (ts : List Token) → Fits o (slots Update) (words_of ts) → length ts ≡ 8
update_length o ts f = sym (count_words ts) ∙ fits_length o (slots Update) (words_of ts) f

-- what follows from what a call says of success
pub then_ok : {X E P Q : Type 0} (r : Result X E) → OnOk r P → (P → Q) → OnOk r Q
then_ok (Ok x) h f = f h
then_ok (Err e) h f = tt

-- the words of the right side of an assignment
pub right_at : (ts : List Token) → 5 ≤ length ts → words_of (take (length ts - 1 - 3) (drop 3 ts)) ≡ take (length (words_of ts) - 4) (drop 3 (words_of ts))
right_at ts l =
    let c = count_words ts in
    let i : length ts - 1 - 3 ≡ length (words_of ts) - 4 = omega (arith, c, l) in
    part_words ts 3 (length ts - 1 - 3) ∙ ap (λ k. take k (drop 3 (words_of ts))) i

-- the tokens from a place on
pub rest_words : (ts : List Token) (at : ℕ) → words_of (take (length ts - at) (drop at ts)) ≡ drop at (words_of ts)
rest_words ts at =
    let l = length-drop at ts in
    ap words_of (take_all (length ts - at) (drop at ts) (omega (arith, l))) ∙ sym (drop-map (λ (t : Token). t.word) at ts)

-- the words of the first tokens
pub first_words : (ts : List Token) (n : ℕ) → words_of (take n ts) ≡ take n (words_of ts)
first_words ts n = sym (take-map (λ (t : Token). t.word) n ts)
