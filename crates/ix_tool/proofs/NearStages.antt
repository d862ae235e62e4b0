-- The last stage of a core that a datasheet names is at most one behind MEM.
use Rattle.std.proofs.Common.{◌≡◌, ℕ, ◌+◌, ◌≤◌, List, Option, Some, None, arith}
use Rattle.std.specs.Prelude.{IsSomeAnd}
use Rattle.toml.specs.Data.{Members}
use Rattle.toml.specs.Parse.{parse_document}
use Rattle.rv_core.specs.declared.Shape.{Shape}
use Rattle.rv_core.specs.declared.cores.CoreKind.{CoreKind}
use Rattle.rv_core.specs.declared.cores.CoreKind.TheVariants.{Three, Four, Five, ThreeF, FiveF}
use Rattle.rv_core.specs.Kinds.{IsShapeOf}
use Rattle.ix_sheet.specs.declared.sheet.Sheet.{Sheet}
use Rattle.ix_sheet.specs.Datasheets.{HasCore, core_of, IsDocumentOf, IsSheetOf}

abbrev IsNear : Shape → Type 0
IsNear shape = shape.stages ≤ shape.mem + 2

by_numbers : (shape : Shape) (stages mem : ℕ) → stages ≤ mem + 2 → shape.stages ≡ stages → shape.mem ≡ mem → IsNear shape
by_numbers shape stages mem near e f = omega (arith, near, e, f)

named : (kind : CoreKind) (shape : Shape) → IsShapeOf kind shape → IsNear shape
named Three shape h = by_numbers shape 3 2 (omega arith) h.stages_are h.mem_is
named Four shape h = by_numbers shape 4 3 (omega arith) h.stages_are h.mem_is
named Five shape h = by_numbers shape 5 3 (omega arith) h.stages_are h.mem_is
named ThreeF shape h = by_numbers shape 3 2 (omega arith) h.stages_are h.mem_is
named FiveF shape h = by_numbers shape 5 3 (omega arith) h.stages_are h.mem_is

by_core : (kind : Option CoreKind) (sheet : Sheet) → HasCore kind sheet → IsNear sheet.shape
by_core None sheet h = absurd h
by_core (Some kind) sheet h = named kind sheet.shape h

by_document : (doc : Option Members) (sheet : Sheet) → IsSomeAnd doc (λ d. IsDocumentOf d sheet) → IsNear sheet.shape
by_document None sheet h = absurd h
by_document (Some doc) sheet h = by_core (core_of doc) sheet h.fields.core

pub near_of : (text : List ℕ) (sheet : Sheet) → IsSheetOf text sheet → sheet.shape.stages ≤ sheet.shape.mem + 2
near_of text sheet h = by_document (parse_document text) sheet h.document
