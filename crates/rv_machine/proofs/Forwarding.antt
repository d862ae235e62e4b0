-- What older tokens pass on of a register is the run's, where none of them withholds it.
use Rattle.std.proofs.Common.{◌≡◌, ◌≢◌, ℕ, zero, suc, ◌+◌, ◌^◌, ◌<◌, ◌≤◌, List, [], ◌∷◌, length, Option, Some, None, Bool, true, false, refl, sym, ap, ◌∙◌, subst, arith, add-zero, add-suc, inl, inr}
use Rattle.std.specs.Prelude.{if◌then◌else◌, ◌==◌, ◌&&◌, ◌||◌, not, nat_lt, slice_index, slice_set, unwrap_or, IfSome}
use Rattle.std.proofs.lemmas.Bool.Decides.{nat_tests}
use Rattle.std.proofs.lemmas.List.{length-set, get_or-set_same}
use Rattle.rv_seq.specs.declared.answer.StepAnswer.{StepAnswer}
use Rattle.rv_seq.specs.declared.answer.StepAnswer.TheVariants.{Done, Stopped}
use Rattle.rv_seq.specs.declared.arch.Arch.{Arch}
use Rattle.rv_seq.specs.declared.commit.Commit.{Commit}
use Rattle.rv_seq.specs.declared.commit.Slot.{Slot}
use Rattle.rv_seq.specs.declared.commit.Slot.TheVariants.{Absent, Now, Later}
use Rattle.rv_seq.specs.Commits.{applied, with_x}
use Rattle.rv_seq.specs.Runs.{start, run_with}
use Rattle.rv_seq.specs.States.{first as first_state}
use Rattle.rv_seq.specs.Steps.{word_at, after}
use Rattle.ix_extension.specs.Extensions.{ExtensionTree}
use Rattle.rv_lawful.specs.Settings.{entries_at}
use Rattle.rv_asks.specs.declared.asks.Asks.{Asks}
use Rattle.rv_core.specs.declared.Shape.{Shape}
use Rattle.rv_tried.specs.declared.trial.Trial.{Trial}
use Rattle.rv_holds.specs.declared.token.Token.{Token}
use Rattle.rv_holds.specs.Tokens.{Slots, or_else}
use Rattle.rv_holds.specs.Forwarding.{x_tried, reach, passed, forwarded, operand_in}
use Rattle.rv_holds.specs.Holds.{oldest, withholds, withholder, operand, waits_for, spawns_at}
use Rattle.rv_engine.specs.Settings.{Setting, shape_of, tree_of}
use Rattle.rv_lawful.specs.Forwarding.{value_in, x_written, is_there, writes_x}
use Rattle.rv_lawful.specs.Outstanding.{is_register}
use Rattle.rv_lawful.specs.Sight.{asked}
use Rattle.rv_sight.specs.Written.{IsAskedFor}
use Rattle.rv_sight.proofs.Natively.{natively}
use Rattle.rv_machine.specs.Placed.{run, entries_of, count, expected, IsPlaced, Placed, IsReady}
use Rattle.rv_machine.proofs.Deciding.{or_else_none, or_else_none_b, if_none, test_eq, test_ne, word_of_run, settled_past}
use Rattle.rv_machine.proofs.Operands.{OnPath, path_word}
use Rattle.rv_machine.proofs.Runs.{answer, step_word, after_step, entered_keeps, entry_x, next_x, run_other, run_zero}
use Rattle.rv_machine.proofs.Unowed.{x_target}

-- ---- what a step writes to its x register

x_of : (c : Commit) (s : Arch) → (applied c s).x ≡ with_x s.x c.rd_index c.rd
unfolding applied
x_of c s = refl

with_x_length : (x : List ℕ) (rd : ℕ) (o : Slot ℕ) → length (with_x x rd o) ≡ length x
with_x_length x rd Absent = refl
with_x_length x rd (Now value) = length-set x rd value
with_x_length x rd Later = refl

start_length : (x : ExtensionTree) (handler : ℕ) (lines : Option (List ℕ)) (places : List ℕ) → length (start x (entries_at handler lines places)).x ≡ 32
unfolding first_state
start_length x handler None places = refl
start_length x handler (Some l) places = refl

-- there are 32 x registers
run_length : (k : Setting) (p : ℕ) → length (run k p).x ≡ 32
unfolding run_with
run_length k zero =
    entered_keeps k 0 (λ s. length s.x ≡ 32) (start (tree_of k) (entries_of k)) (λ t h. ap length (entry_x (shape_of k).trap t) ∙ h) (start_length (tree_of k) (shape_of k).trap k.lines k.places)
run_length k (suc p) =
    after_step k p (λ s. length s.x ≡ 32) (λ t h. ap length (entry_x (shape_of k).trap t) ∙ h) (run_length k p)
    (λ c h. ap length (x_of c (run k p)) ∙ with_x_length (run k p).x c.rd_index c.rd ∙ run_length k p)

asked_for : (k : Setting) (ready : IsReady k) (p word : ℕ) (c : Commit) → word_at k.image (run k p).pc ≡ Some word → answer k p ≡ Done c → IsAskedFor (asked k.design word) c
asked_for k ready p word c w h = ready.written word (run k p) c (ready.wide p) (ready.words p) (ready.image (run k p).pc word w) (ready.pcs p) (sym (step_word k p word w) ∙ h)

-- the register that a step of an instruction writes that asks for one in its own body
own_index : (k : Setting) (ready : IsReady k) (p word : ℕ) (c : Commit) (value : ℕ) → word_at k.image (run k p).pc ≡ Some word → answer k p ≡ Done c → c.rd ≡ Now value → (asked k.design word).destination ≢ 0 → c.rd_index ≡ (asked k.design word).destination
own_index k ready p word c value w h e ne =
    let a = asked_for k ready p word c w h in
    elim (a.own value e) [
      | inl same ↦ same
      | inr spawned ↦ natively k.design word ne c.rd_index spawned
    ]

-- the value that a step writes goes into the register, and one that it does not write stays
run_given : (k : Setting) (ready : IsReady k) (p word reg : ℕ) → word_at k.image (run k p).pc ≡ Some word → (asked k.design word).destination ≡ reg → reg ≢ 0 → reg < 32
    → unwrap_or (x_written (answer k p)) (slice_index (run k p).x reg) ≡ slice_index (run k (suc p)).x reg
run_given k ready p word reg w dest ne lt = by_answer (answer k p) refl where
  by_slot : (c : Commit) → answer k p ≡ Done c → (o : Slot ℕ) → c.rd ≡ o → unwrap_or (value_in o) (slice_index (run k p).x reg) ≡ slice_index (with_x (run k p).x c.rd_index o) reg
  by_slot c h Absent e = refl
  by_slot c h Later e = refl
  by_slot c h (Now value) e =
      let index = own_index k ready p word c value w h e (λ z. ne (sym dest ∙ z)) ∙ dest in
      let long = run_length k p in
      sym (get_or-set_same (run k p).x reg value 0 (omega (arith, long, lt))) ∙ ap (λ i. slice_index (slice_set (run k p).x i value) reg) (sym index)

  by_answer : (a : StepAnswer) → answer k p ≡ a → unwrap_or (x_written a) (slice_index (run k p).x reg) ≡ slice_index (run k (suc p)).x reg
  by_answer (Done c) h =
      by_slot c h c.rd refl
      ∙ ap (λ l. slice_index l reg) (sym (x_of c (run k p)))
      ∙ ap (λ a. slice_index (after (tree_of k) (run k p) a).x reg) (sym h)
      ∙ ap (λ l. slice_index l reg) (sym (next_x k p))
  by_answer (Stopped stop) h = ap (λ a. slice_index (after (tree_of k) (run k p) a).x reg) (sym h) ∙ ap (λ l. slice_index l reg) (sym (next_x k p))

-- it is a word
given_below : (k : Setting) (ready : IsReady k) (p word reg : ℕ) → word_at k.image (run k p).pc ≡ Some word → (asked k.design word).destination ≡ reg → reg ≢ 0 → reg < 32 → IfSome (x_written (answer k p)) (λ value. value < 2 ^ 32)
given_below k ready p word reg w dest ne lt = by_value (x_written (answer k p)) (run_given k ready p word reg w dest ne lt) where
  by_value : (o : Option ℕ) → unwrap_or o (slice_index (run k p).x reg) ≡ slice_index (run k (suc p)).x reg → IfSome o (λ value. value < 2 ^ 32)
  by_value None e = tt
  by_value (Some value) e = subst (λ n. n < 2 ^ 32) (sym e) (ready.words (suc p) reg)

-- ---- what tokens pass on

-- what the token of this place passes on is what its step writes
abbrev pub PassesSlot : Setting → Bool → ℕ → ℕ → Option Token → Type 0
PassesSlot k decided p stage None = Unit {0}
PassesSlot k decided p stage (Some t) = is_there (shape_of k) stage (reach decided stage t) t.asks ≡ true → t.asks.destination ≢ 0 → x_tried t.trial ≡ x_written (answer k p)

abbrev pub Passes : Setting → Bool → ℕ → ℕ → Slots → Type 0
Passes k decided r stage [] = Unit {0}
Passes k decided r stage (s ∷ older) = PassesSlot k decided (r + count older) stage s × Passes k decided r (suc stage) older

no_pass : (z d there : Bool) (o : Option ℕ) → d ≡ false → (if (not z && d) && there then o else None) ≡ None
no_pass true false there o e = refl
no_pass false false there o e = refl
no_pass z true there o e = cc

does_pass : (z d there : Bool) (o : Option ℕ) → z ≡ false → d ≡ true → there ≡ true → (if (not z && d) && there then o else None) ≡ o
does_pass false true true o e f g = refl
does_pass false true false o e f g = cc
does_pass false false there o e f g = cc
does_pass true d there o e f g = cc

-- what is not withheld is above the time of its write
above_time : (d f l : Bool) → d ≡ true → f ≡ true → (d && not (f && l)) ≡ false → l ≡ true
above_time true true true e f h = refl
above_time true true false e f h = cc
above_time true false l e f h = cc
above_time false f l e g h = cc

-- where nothing is forwarded all of it is withheld
not_destination : (d f l : Bool) → f ≡ false → (d && not (f && l)) ≡ false → d ≡ false
not_destination false f l e h = refl
not_destination true false l e h = cc
not_destination true true l e h = cc

destination_some : (a reg : ℕ) → (a == reg) ≡ true → reg ≢ 0 → a ≢ 0
destination_some a reg e ne = λ z. ne (sym (test_eq a reg e) ∙ z)

no_spawn : (older : Slots) (t : Token) (reg : ℕ) → reg < 32 → oldest (spawns_at reg) (Some t ∷ older) ≡ None → is_register t.asks.spawned reg ≡ false
no_spawn older t reg lt h = sym (x_target t.asks reg lt) ∙ if_none (spawns_at reg t) t.cell.serial (or_else_none_b (oldest (spawns_at reg) older) _ h)

module _ (k : Setting) (ready : IsReady k) (r reg : ℕ) (lt : reg < 32) where
  -- a token that does not write the register leaves it as it is
  stays : (stage : ℕ) (t : Token) (older : Slots) → (shape_of k).ex ≤ stage → Placed k r stage (Some t ∷ older) → OnPath k (Some t ∷ older) → (t.asks.destination == reg) ≡ false → oldest (spawns_at reg) (Some t ∷ older) ≡ None
      → slice_index (run k (r + count older)).x reg ≡ slice_index (run k (suc (r + count older))).x reg
  stays stage t older le h path e n =
      sym (run_other k ready (r + count older) t.cell.word reg (path_word k r stage t older le h path) (λ q. test_ne t.asks.destination reg e (ap (λ (a : Asks). a.destination) h.0.asks ∙ q))
      (sym (ap (λ (a : Asks). is_register a.spawned reg) h.0.asks) ∙ no_spawn older t reg lt n))

  -- on a core that does not forward: no older token writes it
  plain_is : (stage : ℕ) (older : Slots) → (shape_of k).ex ≤ stage → Placed k r stage older → OnPath k older → (shape_of k).forward ≡ false → withholder (shape_of k) reg stage older ≡ None → oldest (spawns_at reg) older ≡ None
      → slice_index (run k r).x reg ≡ slice_index (run k (r + count older)).x reg
  plain_is stage [] le h path plain w n = rw add-zero
  plain_is stage (None ∷ older) le h path plain w n = plain_is (suc stage) older (omega (arith, le)) h.1 path plain w n
  plain_is stage (Some t ∷ older) le h path plain w n =
      let here = if_none (withholds (shape_of k) reg stage t) t.cell.serial (or_else_none_b (withholder (shape_of k) reg (suc stage) older) _ w) in
      let other = not_destination (t.asks.destination == reg) (shape_of k).forward (nat_lt t.asks.x_time stage) plain here in
      rw (add-suc r (count older))
      (plain_is (suc stage) older (omega (arith, le)) h.1 path.1 plain (or_else_none (withholder (shape_of k) reg (suc stage) older) _ w) (or_else_none (oldest (spawns_at reg) older) _ n)
      ∙ stays stage t older le h path other n)

  -- on one that does, what the older ones pass on
  forwarded_is : (decided : Bool) (value stage : ℕ) (older : Slots) → (shape_of k).ex ≤ stage → (reg == 0) ≡ false → Placed k r stage older → OnPath k older → Passes k decided r stage older → (shape_of k).forward ≡ true → withholder (shape_of k) reg stage older ≡ None
      → oldest (spawns_at reg) older ≡ None → value ≡ slice_index (run k r).x reg → forwarded (shape_of k) decided reg stage older value ≡ slice_index (run k (r + count older)).x reg
  forwarded_is decided value stage [] le nz h path passes on w n same = rw add-zero same
  forwarded_is decided value stage (None ∷ older) le nz h path passes on w n same = forwarded_is decided value (suc stage) older (omega (arith, le)) nz h.1 path passes.1 on w n same
  forwarded_is decided value stage (Some t ∷ older) le nz h path passes on w n same =
      rw (add-suc r (count older))
      (by_case (t.asks.destination == reg) refl
      (forwarded_is decided value (suc stage) older (omega (arith, le)) nz h.1 path.1 passes.1 on (or_else_none (withholder (shape_of k) reg (suc stage) older) _ w) (or_else_none (oldest (spawns_at reg) older) _ n) same)) where
        here : withholds (shape_of k) reg stage t ≡ false
        here = if_none (withholds (shape_of k) reg stage t) t.cell.serial (or_else_none_b (withholder (shape_of k) reg (suc stage) older) _ w)

        by_case : (b : Bool) → (t.asks.destination == reg) ≡ b → forwarded (shape_of k) decided reg (suc stage) older value ≡ slice_index (run k (r + count older)).x reg
            → unwrap_or (passed (shape_of k) decided reg stage t) (forwarded (shape_of k) decided reg (suc stage) older value) ≡ slice_index (run k (suc (r + count older))).x reg
        by_case false e rest =
            ap (λ o. unwrap_or o (forwarded (shape_of k) decided reg (suc stage) older value)) (no_pass (reg == 0) (t.asks.destination == reg) (is_there (shape_of k) stage (reach decided stage t) t.asks) (x_tried t.trial) e)
            ∙ rest
            ∙ stays stage t older le h path e n
        by_case true e rest =
            let up = above_time (t.asks.destination == reg) (shape_of k).forward (nat_lt t.asks.x_time stage) e on here in
            let there : is_there (shape_of k) stage (reach decided stage t) t.asks ≡ true =
            ap (λ b. b || (nat_lt (shape_of k).ex (reach decided stage t) && (not t.asks.loads || nat_lt (shape_of k).mem (reach decided stage t)))) up in
            let ne = test_ne reg 0 nz in
            ap (λ o. unwrap_or o (forwarded (shape_of k) decided reg (suc stage) older value))
            (does_pass (reg == 0) (t.asks.destination == reg) (is_there (shape_of k) stage (reach decided stage t) t.asks) (x_tried t.trial) nz e there ∙ passes.0 there (destination_some t.asks.destination reg e ne))
            ∙ ap (λ v. unwrap_or (x_written (answer k (r + count older))) v) rest
            ∙ run_given k ready (r + count older) t.cell.word reg (path_word k r stage t older le h path) (ap (λ (a : Asks). a.destination) (sym h.0.asks) ∙ test_eq t.asks.destination reg e) ne lt

-- x0 is not forwarded
forwarded_zero : (k : Shape) (decided : Bool) (stage : ℕ) (older : Slots) (value : ℕ) → forwarded k decided 0 stage older value ≡ value
forwarded_zero k decided stage [] value = refl
forwarded_zero k decided stage (None ∷ older) value = forwarded_zero k decided (suc stage) older value
forwarded_zero k decided stage (Some t ∷ older) value = forwarded_zero k decided (suc stage) older value

operand_none : (reg : ℕ) (o : Option ℕ) → operand reg o ≡ None → o ≡ None
operand_none reg None h = refl
operand_none reg (Some j) h = cc

-- an operand that is not waited for, and that no older token spawns, is the run's
pub operand_is : (k : Setting) (ready : IsReady k) (decided : Bool) (r stage reg : ℕ) (older : Slots) (file : List ℕ) → (shape_of k).ex ≤ stage → reg < 32 → Placed k r stage older → OnPath k older → Passes k decided r stage older → waits_for (shape_of k) reg stage older ≡ None
    → ((reg == 0) ≡ false → oldest (spawns_at reg) older ≡ None) → slice_index file reg ≡ slice_index (run k r).x reg → operand_in (shape_of k) decided stage older file reg ≡ slice_index (run k (r + count older)).x reg
operand_is k ready decided r stage reg older file le lt h path passes free n same = by_case (shape_of k).forward refl where
  none : (reg == 0) ≡ false → withholder (shape_of k) reg stage older ≡ None
  none nz = operand_none reg (withholder (shape_of k) reg stage older) (sym (ap (λ (b : Bool). if b then None else operand reg (withholder (shape_of k) reg stage older)) nz) ∙ free)

  zero_is : reg ≡ 0 → slice_index file reg ≡ slice_index (run k (r + count older)).x reg
  zero_is z =
      same
      ∙ ap (λ i. slice_index (run k r).x i) z
      ∙ run_zero k ready r
      ∙ sym (run_zero k ready (r + count older))
      ∙ ap (λ i. slice_index (run k (r + count older)).x i) (sym z)

  by_zero_plain : (shape_of k).forward ≡ false → (z : Bool) → (reg == 0) ≡ z → slice_index file reg ≡ slice_index (run k (r + count older)).x reg
  by_zero_plain e true z = zero_is (test_eq reg 0 z)
  by_zero_plain e false z = same ∙ plain_is k ready r reg lt stage older le h path e (none z) (n z)

  by_zero : (shape_of k).forward ≡ true → (z : Bool) → (reg == 0) ≡ z → forwarded (shape_of k) decided reg stage older (slice_index file reg) ≡ slice_index (run k (r + count older)).x reg
  by_zero e true z =
      ap (λ i. forwarded (shape_of k) decided i stage older (slice_index file reg)) (test_eq reg 0 z)
      ∙ forwarded_zero (shape_of k) decided stage older (slice_index file reg)
      ∙ zero_is (test_eq reg 0 z)
  by_zero e false z = forwarded_is k ready r reg lt decided (slice_index file reg) stage older le z h path passes e (none z) (n z) same

  by_case : (b : Bool) → (shape_of k).forward ≡ b → (if b then forwarded (shape_of k) decided reg stage older (slice_index file reg) else slice_index file reg) ≡ slice_index (run k (r + count older)).x reg
  by_case true e = by_zero e (reg == 0) refl
  by_case false e = by_zero_plain e (reg == 0) refl

-- ---- before the row

-- what has a value there stands past EX
there_past : (ex mem stage time : ℕ) (loads : Bool) → ex ≤ time → (nat_lt time stage || (nat_lt ex stage && (not loads || nat_lt mem stage))) ≡ true → ex < stage
there_past ex mem stage time loads le h = by_case (nat_lt time stage) refl (nat_lt ex stage) refl h where
  by_case : (a : Bool) → nat_lt time stage ≡ a → (b : Bool) → nat_lt ex stage ≡ b → (a || (b && (not loads || nat_lt mem stage))) ≡ true → ex < stage
  by_case true e b f q = let x : time < stage = grind (arith, nat_tests) in omega (arith, x, le)
  by_case false e true f q = grind (arith, nat_tests)
  by_case false e false f q = cc

-- and above the time of its write, where it loads and is not past MEM
there_timely : (a b loads past : Bool) → loads ≡ true → past ≡ false → (a || (b && (not loads || past))) ≡ true → a ≡ true
there_timely true b loads past e f h = refl
there_timely false true true false e f h = cc
there_timely false true true true e f h = cc
there_timely false true false past e f h = cc
there_timely false false loads past e f h = cc

is_less : (a b : ℕ) → nat_lt a b ≡ true → a < b
is_less a b h = grind (arith, nat_tests)

is_least : (a b : ℕ) → nat_lt a b ≡ false → b ≤ a
is_least a b h = grind (arith, nat_tests)

module _ (k : Setting) (ready : IsReady k) (p address stage : ℕ) (older : Slots) (t : Token) (here : IsPlaced k p address stage older t) where
  -- no x register is written before EX
  pub time_late : t.asks.destination ≢ 0 → (shape_of k).ex ≤ t.asks.x_time
  time_late ne =
      subst (λ (a : Asks). (shape_of k).ex ≤ a.x_time) (sym here.asks)
      (ready.times t.cell.word (λ z. ne (ap (λ (a : Asks). a.destination) here.asks ∙ z)))

  -- past EX what is there is what the step writes
  pub past_passes : (shape_of k).ex < stage → is_there (shape_of k) stage stage t.asks ≡ true → t.asks.destination ≢ 0 → x_tried t.trial ≡ x_written (answer k p)
  past_passes lt there ne = by_loads t.asks.loads refl (nat_lt (shape_of k).mem stage) refl where
    of_exact : (t.asks.loads ≡ true → (shape_of k).mem < stage) → x_tried t.trial ≡ x_written (answer k p)
    of_exact past = let g = here.gone lt in ap x_tried g.1 ∙ ap x_written (here.exact g.0 g.1 past).answer

    by_loads : (l : Bool) → t.asks.loads ≡ l → (m : Bool) → nat_lt (shape_of k).mem stage ≡ m → x_tried t.trial ≡ x_written (answer k p)
    by_loads false e m f = of_exact (λ q. absurd (cc (e, q)))
    by_loads true e true f = of_exact (λ q. is_less (shape_of k).mem stage f)
    by_loads true e false f =
        let early = is_less t.asks.x_time stage (there_timely (nat_lt t.asks.x_time stage) (nat_lt (shape_of k).ex stage) t.asks.loads (nat_lt (shape_of k).mem stage) e f there) in
        let low = is_least (shape_of k).mem stage f in
        let g = here.gone lt in
        ap x_tried g.1 ∙ (here.tried g.0 g.1).x ne (omega (arith, early, low))

  -- so it is before the row, whatever the stage
  pub token_passes : PassesSlot k false p stage (Some t)
  token_passes there ne = past_passes (there_past (shape_of k).ex (shape_of k).mem stage t.asks.x_time t.asks.loads (time_late ne) there) there ne

pub placed_passes : (k : Setting) (ready : IsReady k) (r stage : ℕ) (slots : Slots) → Placed k r stage slots → Passes k false r stage slots
placed_passes k ready r stage [] h = tt
placed_passes k ready r stage (None ∷ older) h = (tt, placed_passes k ready r (suc stage) older h.1)
placed_passes k ready r stage (Some t ∷ older) h = (
  token_passes k ready (r + count older) (expected k r (suc stage) older) stage older t h.0,
  placed_passes k ready r (suc stage) older h.1,
)

-- what is passed on before a row is a word
passed_below : (k : Setting) (ready : IsReady k) (r reg stage : ℕ) (t : Token) (older : Slots) → reg < 32 → Placed k r stage (Some t ∷ older) → IfSome (passed (shape_of k) false reg stage t) (λ value. value < 2 ^ 32)
passed_below k ready r reg stage t older lt h = by_case (reg == 0) refl (t.asks.destination == reg) refl (is_there (shape_of k) stage stage t.asks) refl where
  by_case : (z : Bool) → (reg == 0) ≡ z → (d : Bool) → (t.asks.destination == reg) ≡ d → (there : Bool) → is_there (shape_of k) stage stage t.asks ≡ there → IfSome (if (not z && d) && there then x_tried t.trial else None) (λ value. value < 2 ^ 32)
  by_case true e d f there g = tt
  by_case false e false f there g = tt
  by_case false e true f false g = tt
  by_case false e true f true g =
      let ne = test_ne reg 0 e in
      let some = destination_some t.asks.destination reg f ne in
      let past = there_past (shape_of k).ex (shape_of k).mem stage t.asks.x_time t.asks.loads (time_late k ready (r + count older) (expected k r (suc stage) older) stage older t h.0 some) g in
      let late = settled_past k (r + count older) (expected k r (suc stage) older) stage older t past h.0 in
      subst (λ o. IfSome o (λ value. value < 2 ^ 32)) (sym (past_passes k ready (r + count older) (expected k r (suc stage) older) stage older t h.0 past g some))
      (given_below k ready (r + count older) t.cell.word reg (word_of_run k r stage t older (omega (arith, past)) late h.0) (ap (λ (a : Asks). a.destination) (sym h.0.asks) ∙ test_eq t.asks.destination reg f) ne lt)

or_below : (o : Option ℕ) (v : ℕ) → IfSome o (λ value. value < 2 ^ 32) → v < 2 ^ 32 → unwrap_or o v < 2 ^ 32
or_below None v h g = g
or_below (Some value) v h g = h

forwarded_below : (k : Setting) (ready : IsReady k) (r reg stage : ℕ) (older : Slots) (value : ℕ) → reg < 32 → Placed k r stage older → value < 2 ^ 32 → forwarded (shape_of k) false reg stage older value < 2 ^ 32
forwarded_below k ready r reg stage [] value lt h small = small
forwarded_below k ready r reg stage (None ∷ older) value lt h small = forwarded_below k ready r reg (suc stage) older value lt h.1 small
forwarded_below k ready r reg stage (Some t ∷ older) value lt h small =
    or_below (passed (shape_of k) false reg stage t) (forwarded (shape_of k) false reg (suc stage) older value) (passed_below k ready r reg stage t older lt h)
    (forwarded_below k ready r reg (suc stage) older value lt h.1 small)

-- so is each operand
pub operand_below : (k : Setting) (ready : IsReady k) (r reg stage : ℕ) (older : Slots) (file : List ℕ) → reg < 32 → Placed k r stage older → slice_index file reg < 2 ^ 32 → operand_in (shape_of k) false stage older file reg < 2 ^ 32
operand_below k ready r reg stage older file lt h small = by_case (shape_of k).forward (forwarded_below k ready r reg stage older (slice_index file reg) lt h small) where
  by_case : (b : Bool) → forwarded (shape_of k) false reg stage older (slice_index file reg) < 2 ^ 32 → (if b then forwarded (shape_of k) false reg stage older (slice_index file reg) else slice_index file reg) < 2 ^ 32
  by_case true below = below
  by_case false below = small
