-- What is no instruction of the extension has no spawn target and no unit.
use Rattle.std.proofs.Common.{◌≡◌, refl, sym, subst, ℕ, zero, suc, [], get_or, Some, None, Bool, false}
use Rattle.std.specs.List.{list_any}
use Rattle.ix_plan.specs.declared.design.Design.{Design}
use Rattle.rv_isa.specs.declared.base.Base.{Base}
use Rattle.rv_asks.specs.Acts as acts
use Rattle.rv_asks.specs.Asks.{flags, asks_in}
use Rattle.rv_seq.specs.declared.decoded.Decoded.TheVariants as D
use Rattle.rv_lawful.specs.Sight.{SpawnsNothing}
use Rattle.rv_sight.proofs.Asking.{base_asks_are, none_asks}

all_false : (f : ℕ → Bool) (n r : ℕ) → ((q : ℕ) → f q ≡ false) → get_or (flags f n) r false ≡ false
all_false f zero r h = refl
all_false f (suc n) zero h = h 0
all_false f (suc n) (suc r) h = all_false (λ q. f (suc q)) n r (λ q. h (suc q))

-- a word that is no instruction of the extension has no spawn target and no unit
pub none_quiet : (d : Design) (word : ℕ) → SpawnsNothing (asks_in d word None)
none_quiet d word =
    subst SpawnsNothing (sym (none_asks d word))
    (record { x = refl; customs = λ r. all_false (λ q. list_any (acts.spawns_custom q) []) 16 r (λ q. refl); unit = refl })

pub base_quiet : (d : Design) (word : ℕ) (b : Base) → SpawnsNothing (asks_in d word (Some (D.Base b)))
base_quiet d word b =
    subst SpawnsNothing (sym (base_asks_are d word b)) (record { x = refl; customs = λ r. all_false (λ q. false) 16 r (λ q. refl); unit = refl })
