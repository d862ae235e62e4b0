-- The handler of a core that a datasheet names stands at an address of 32 bits.
use Rattle.std.proofs.Common.{◌≡◌, ℕ, ◌<◌, ◌^◌, List, Option, Some, None, sym, subst, arith}
use Rattle.std.specs.Prelude.{IsSomeAnd}
use Rattle.toml.specs.Data.{Members}
use Rattle.toml.specs.Parse.{parse_document}
use Rattle.rv_core.specs.declared.Shape.{Shape}
use Rattle.rv_core.specs.declared.cores.CoreKind.{CoreKind}
use Rattle.rv_core.specs.declared.cores.CoreKind.TheVariants.{Three, Four, Five, ThreeF, FiveF}
use Rattle.rv_core.specs.Kinds.{IsShapeOf}
use Rattle.ix_plan.specs.declared.design.Design.{Design}
use Rattle.ix_sheet.specs.declared.sheet.Sheet.{Sheet}
use Rattle.ix_sheet.specs.Datasheets.{HasCore, core_of, IsDocumentOf, IsSheetOf}

pub at_sixteen : (shape : Shape) → shape.trap ≡ 16 → shape.trap < 2 ^ 32
at_sixteen shape e = omega (arith, e)

named : (kind : CoreKind) (shape : Shape) → IsShapeOf kind shape → shape.trap < 2 ^ 32
named Three shape h = at_sixteen shape h.trap_is
named Four shape h = at_sixteen shape h.trap_is
named Five shape h = at_sixteen shape h.trap_is
named ThreeF shape h = at_sixteen shape h.trap_is
named FiveF shape h = at_sixteen shape h.trap_is

by_core : (kind : Option CoreKind) (sheet : Sheet) → HasCore kind sheet → sheet.shape.trap < 2 ^ 32
by_core None sheet h = absurd h
by_core (Some kind) sheet h = named kind sheet.shape h

by_document : (doc : Option Members) (sheet : Sheet) → IsSomeAnd doc (λ d. IsDocumentOf d sheet) → sheet.shape.trap < 2 ^ 32
by_document None sheet h = absurd h
by_document (Some doc) sheet h = by_core (core_of doc) sheet h.fields.core

-- so does that of a design whose datasheet a text is
pub handler_of : (design : Design) (text : List ℕ) (sheet : Sheet) → design.sheet ≡ sheet → IsSheetOf text sheet → design.sheet.shape.trap < 2 ^ 32
handler_of design text sheet same h = subst (λ (s : Sheet). s.shape.trap < 2 ^ 32) (sym same) (by_document (parse_document text) sheet h.document)
