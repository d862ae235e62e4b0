-- While an interrupt is to be taken, it can be.
use Rattle.std.proofs.Common.{◌≡◌, refl, Option, Some, None, Bool, true, false}
use Rattle.std.specs.Prelude.{◌&&◌, if◌then◌else◌}
use Rattle.rv_core.specs.declared.Shape.{Shape}
use Rattle.ix_extension.specs.Extensions.{ExtensionTree}
use Rattle.rv_seq.specs.declared.arch.Arch.{Arch}
use Rattle.rv_seq.specs.declared.arch.TrapState.{TrapState}
use Rattle.rv_seq.specs.declared.commit.Commit.{Commit}
use Rattle.rv_seq.specs.Commits.{applied}
use Rattle.rv_seq.specs.Interrupts.{is_return, enabled_again, resumed, is_enabled}
use Rattle.rv_tried.specs.Parts.{paid}
use Rattle.rv_holds.specs.Tokens.{Slots}
use Rattle.rv_holds.specs.Flushing.{enters}
use Rattle.rv_engine.specs.declared.owing.Owed.{Owed}
use Rattle.rv_engine.specs.Rows.{arch_retired, arch_paid}

pub first_holds : (a b : Bool) → (a && b) ≡ true → a ≡ true
first_holds true b e = refl
first_holds false b e = cc

pub second_holds : (a b : Bool) → (a && b) ≡ true → b ≡ true
second_holds true b e = e
second_holds false b e = cc

kept_again : (returns : Bool) (trap : Option TrapState) → is_enabled trap ≡ true → is_enabled (if returns then enabled_again trap else trap) ≡ true
kept_again true None e = e
kept_again true (Some t) e = refl
kept_again false trap e = e

after_retired : (x : ExtensionTree) (c : Option Commit) (s : Arch) → is_enabled s.trap ≡ true → is_enabled (arch_retired x c s).trap ≡ true
unfolding applied
after_retired x None s e = e
after_retired x (Some c) s e = kept_again (is_return x c.word) s.trap e

-- what is written takes no interrupt away
pub enabled_after : (x : ExtensionTree) (o : Option Owed) (c : Option Commit) (s : Arch) → is_enabled s.trap ≡ true → is_enabled (arch_paid o (arch_retired x c s)).trap ≡ true
unfolding paid
enabled_after x None c s e = after_retired x c s e
enabled_after x (Some o) c s e = after_retired x c s e

-- where the handler is entered, an interrupt is to be taken
pub interrupted_at : (k : Shape) (interrupted : Bool) (slots : Slots) → enters k interrupted slots ≡ true → interrupted ≡ true
interrupted_at k interrupted slots e = first_holds interrupted _ e
