-- The setting of a design that stands is fit.
use Rattle.std.proofs.Common.{◌≡◌, ◌∙◌, refl, sym, ap, ℕ, zero, suc, ◌+◌, ◌-◌, List, [], ◌∷◌, length, None, arith}
use Rattle.std.specs.Prelude.{replicate}
use Rattle.ix_extension.specs.Extensions.{ExtensionTree, view_extension}
use Rattle.ix_graph.specs.declared.graph.Mode.{Mode}
use Rattle.ix_graph.specs.declared.graph.Mode.TheVariants.{InPipeline, Tight, Decoupled, Always}
use Rattle.ix_plan.specs.declared.design.Plan.{Plan}
use Rattle.ix_plan.specs.declared.design.Design.{Design}
use Rattle.ix_plan.specs.Units.{unit_in, first_units}
use Rattle.rv_seq.specs.States.{first}
use Rattle.rv_seq.specs.Runs.{run_with}
use Rattle.rv_unit.specs.Numbering.{lasts_of}
use Rattle.rv_unit.proofs.Numbered.{first_law}
use Rattle.rv_rows.specs.Facts.{IsPlain}
use Rattle.rv_rows.specs.Laws.{IsEmptyUnit, AreEmptyUnits}
use Rattle.rv_holdings.specs.Expected.{NamesRegisters}
use Rattle.rv_rows.specs.Recorded.{HasWords}
use Rattle.rv_owing.specs.Units.{HasUnits}
use Rattle.rv_owing.proofs.Following.{of_count}
use Rattle.rv_sight.specs.InUnits.{AreInUnits}
use Rattle.rv_watch.specs.Fit.{plain_setting, IsFit}
use Rattle.rv_watch.proofs.Stepping.{done_word, fetch_none}
use Rattle.rv_watch.proofs.Registers.{customs_few, spawned_few}

-- ---- units before the first row

empty_unit : (n : ℕ) → IsEmptyUnit (replicate n None)
empty_unit zero = tt
empty_unit (suc n) = empty_unit n

empty_units : (stages : ℕ) (plans : List Plan) → AreEmptyUnits (first_units stages plans)
empty_units stages [] = tt
empty_units stages (p ∷ plans) = by_mode p.mode (empty_units stages plans) where
  by_mode : (m : Mode) → AreEmptyUnits (first_units stages plans) → AreEmptyUnits (unit_in stages m p.last (first_units stages plans))
  by_mode Decoupled h = (empty_unit (p.last + 1 - stages), h)
  by_mode InPipeline h = h
  by_mode Tight h = h
  by_mode Always h = h

first_count : (stages : ℕ) (plans : List Plan) → length (first_units stages plans) ≡ length (lasts_of plans)
first_count stages plans = ap (λ l. length l) (sym (first_law stages plans)) ∙ of_count stages (lasts_of plans) []

-- ---- the parts

begins_at : (x : ExtensionTree) (image : List ℕ) → (run_with x image None 0).pc ≡ 0
unfolding run_with first
begins_at x image = refl

module _ (d : Design) (image waits : List ℕ) where
  plain_of : IsPlain (plain_setting d image waits)
  plain_of =
      let law = d.sheet.shape.lawful in
      let b = law.memory_inside in
      record {
        no_line = refl;
        rd_pos = law.reads_late;
        rd_ex = law.reads_first;
        ex_near = law.reads_near;
        ex_mem = law.memory_late;
        mem_last = omega (arith, b);
        most = law.most;
        begins = begins_at (view_extension d.extension) image;
        fetches = λ p e. fetch_none (view_extension d.extension) image (run_with (view_extension d.extension) image None p) e;
      }

  registers_of : NamesRegisters (plain_setting d image waits)
  registers_of = record { spawned = λ word r e. spawned_few d word r e; customs = λ word c e. customs_few d word c e }

  words_of : HasWords (plain_setting d image waits)
  words_of = λ p c e. done_word (view_extension d.extension) image (run_with (view_extension d.extension) image None p) c e

  units_in : AreInUnits d → HasUnits (plain_setting d image waits)
  units_in h =
      record {
        empty = empty_units d.sheet.shape.stages d.plans;
        times = (lasts_of d.plans, record { can_be = h.units; first = sym (first_law d.sheet.shape.stages d.plans) });
        below = λ word u e. (let lt = h.numbering word u e in let same = first_count d.sheet.shape.stages d.plans in omega (arith, lt, same));
        spawning = λ word t e. h.spawning word t e;
      }

  pub fit_of : AreInUnits d → IsFit (plain_setting d image waits)
  fit_of h = record { plain = plain_of; registers = registers_of; units = units_in h; words = words_of }
