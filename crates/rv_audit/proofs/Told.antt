-- What holds of rows of which this is kept.
use Rattle.std.proofs.Common.{◌≡◌, ◌∙◌, refl, sym, ap, List, Option, Some, None, is_some, true, false}
use Rattle.rv_seq.specs.declared.commit.Stop.{Stop}
use Rattle.rv_trace.specs.declared.row.Row.{Row}
use Rattle.rv_trace.specs.Trace.{newest}
use Rattle.rv_rows.specs.Facts.{AreGoingOn}
use Rattle.rv_rows.specs.Known.{IsOwing}
use Rattle.rv_owing.specs.Owing.{OwingLaw, GrantedLaw}
use Rattle.rv_watch.specs.Fit.{IsFit, FitLaw}
use Rattle.rv_watch.specs.declared.against.Against.{Against}
use Rattle.rv_watch.specs.declared.watch.Watch.{Watch}
use Rattle.rv_watch.specs.Watched.{setting_of, IsFitting, IsWatched}

pub never : false ≡ true → ⊥
never e = cc

-- ---- the row before, as it is kept
none_of : (o : Option Stop) → is_some o ≡ false → o ≡ None
none_of None g = refl
none_of (Some stop) g = absurd cc

pub no_stop : (row was : Row) → row ≡ was → is_some was.stop ≡ false → row.stop ≡ None
no_stop row was e f = ap (λ (r : Row). r.stop) e ∙ none_of was.stop f

pub some_stop : (row was : Row) → row ≡ was → is_some was.stop ≡ true → row.stop ≡ None → ⊥
some_stop row was e f g = never (sym (ap (λ (r : Row). is_some r.stop) (sym e) ∙ ap (λ o. is_some o) g) ∙ f)

pub is_stop : (row was : Row) → row ≡ was → is_some was.stop ≡ true → is_some row.stop ≡ true
is_stop row was e f = ap (λ (r : Row). is_some r.stop) e ∙ f

-- ---- facts
module _ (a : Against) where
  pub fit_of : FitLaw → IsFitting a → IsFit (setting_of a)
  fit_of law fits = law a.design.now a.image.now a.waits.now fits.stands

  module _ (rows : List Row) (w : Watch) (watched : IsWatched a rows w) where
    pub on_of : (newest rows).stop ≡ None → AreGoingOn (setting_of a) rows
    on_of going = record { lawful = watched.lawful; going = going }

    pub owing_of : OwingLaw → IsFit (setting_of a) → IsOwing (setting_of a) rows
    owing_of law fit = law.owing (setting_of a) rows fit.plain fit.units fit.words watched.lawful watched.recorded

    pub granted_of : OwingLaw → IsFit (setting_of a) → GrantedLaw (setting_of a) rows
    granted_of law fit = law.granted (setting_of a) rows fit.plain fit.units fit.words watched.lawful watched.recorded
