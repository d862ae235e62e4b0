-- What the operations of a graph give (CoreDSL 2, expressions). A value is a pattern of its type's width.
use Rattle.std.specs.Prelude.{◌≡◌, ℕ, zero, suc, ◌<◌, ◌^◌, if◌then◌else◌, List, [], ◌∷◌, ◌++◌, map, get_or, Option, Some, None, slice_get, slice_index}
use Rattle.ix_bits.specs.declared.number.Ty.{Ty}
use Rattle.ix_bits.specs.declared.number.Bits.{Bits}
use Rattle.ix_bits.specs.Operators.{pattern_of, value_of, is_true}
use Rattle.ix_graph.specs.declared.kind.Kind.{Kind}
use Rattle.ix_graph.specs.declared.kind.Kind.TheVariants.{Not, Neg, Lnot, Range, Cast, Mux, Rom}
use Rattle.ix_graph.specs.declared.args.Arg.{Arg}
use Rattle.ix_graph.specs.declared.args.Arg.TheVariants as arg
use Rattle.ix_graph.specs.declared.graph.Op.{Op}
use Rattle.ix_graph.specs.declared.graph.Graph.{Graph}
use Rattle.ix_graph.specs.declared.role.Role.{Role}
use Rattle.ix_graph.specs.declared.role.Role.TheVariants.{Read, Compute, Write}
use Rattle.ix_graph.specs.Graphs.{arg_type, IsValidGraph}
use Rattle.ix_graph.specs.Roles.{role_of}
use Rattle.ix_mean.specs.Meaning.{one_number}
use Rattle.ix_mean.specs.Terms.{operator_number, binary_of}
use Rattle.ix_mean.specs.View.{raw_of}

-- the pattern of an argument, where `terms` has those of the operations
abbrev pub arg_raw : (ℕ → ℕ) → Arg → ℕ
arg_raw terms (arg.Op number) = terms number
arg_raw terms (arg.Const ty bits) = bits.raw

-- the pattern of a cast, a range of bits, or an operator on one number
abbrev pub by_one : Kind → List (Option Ty) → List ℕ → Ty → ℕ
by_one kind (Some a ∷ []) (x ∷ []) ty = pattern_of ty.width (one_number kind a ty (value_of a x))
by_one kind types raws ty = 0

-- the pattern of an operator on two numbers
abbrev pub by_two : Kind → List (Option Ty) → List ℕ → Ty → ℕ
by_two kind (Some a ∷ Some b ∷ []) (x ∷ y ∷ []) ty = pattern_of ty.width (operator_number (binary_of kind) a (value_of a x) b (value_of b y))
by_two kind types raws ty = 0

-- the pattern of the one number where the condition is not 0, else of the other
abbrev pub by_choice : List (Option Ty) → List ℕ → Ty → ℕ
by_choice (Some c ∷ Some a ∷ Some b ∷ []) (s ∷ x ∷ y ∷ []) ty = pattern_of ty.width (if is_true (value_of c s) then value_of a x else value_of b y)
by_choice types raws ty = 0

-- the pattern of an entry of a table
abbrev pub by_entry : Option (List Bits) → List ℕ → ℕ
by_entry (Some entries) (x ∷ []) = get_or (map raw_of entries) x 0
by_entry entries raws = 0

-- the pattern that an operation makes of its arguments, of these types and with these patterns
unfoldable pub kind_value : List (List Bits) → Kind → List (Option Ty) → List ℕ → Ty → ℕ
kind_value tables Not types raws ty = by_one Not types raws ty
kind_value tables Neg types raws ty = by_one Neg types raws ty
kind_value tables Lnot types raws ty = by_one Lnot types raws ty
kind_value tables (Range hi lo) types raws ty = by_one (Range hi lo) types raws ty
kind_value tables Cast types raws ty = by_one Cast types raws ty
kind_value tables Mux types raws ty = by_choice types raws ty
kind_value tables (Rom table) types raws ty = by_entry (slice_get tables table) raws
kind_value tables kind types raws ty = by_two kind types raws ty

-- what the operation k has by its role: a read has any pattern of its width
abbrev pub MeansAs : Role → Graph → (ℕ → ℕ) → ℕ → Op → Type 0
MeansAs Read g terms k op = terms k < 2 ^ op.ty.width
MeansAs Compute g terms k op = terms k ≡ kind_value g.tables op.kind (map (arg_type g.ops) op.args) (map (arg_raw terms) op.args) op.ty
MeansAs Write g terms k op = Unit {0}

-- `terms` has the values of the graph's operations under some inputs
abbrev pub IsMeaning : Graph → (ℕ → ℕ) → Type 0
IsMeaning g terms = (k : ℕ) (op : Op) → slice_get g.ops k ≡ Some op → MeansAs (role_of op.kind) g terms k op

-- the value of the operation k, from those of the operations before it and from what reads give
abbrev pub value_as : Role → Graph → (ℕ → ℕ) → List ℕ → ℕ → Op → ℕ
value_as Read g reads values k op = reads k
value_as Compute g reads values k op = kind_value g.tables op.kind (map (arg_type g.ops) op.args) (map (arg_raw (slice_index values)) op.args) op.ty
value_as Write g reads values k op = 0

abbrev pub value_at : Graph → (ℕ → ℕ) → List ℕ → ℕ → Option Op → ℕ
value_at g reads values k None = 0
value_at g reads values k (Some op) = value_as (role_of op.kind) g reads values k op

-- the values of the first n operations
abbrev pub values_upto : Graph → (ℕ → ℕ) → ℕ → List ℕ
values_upto g reads zero = []
values_upto g reads (suc n) = values_upto g reads n ++ value_at g reads (values_upto g reads n) n (slice_get g.ops n) ∷ []

abbrev pub terms_of : Graph → (ℕ → ℕ) → ℕ → ℕ
terms_of g reads k = slice_index (values_upto g reads (suc k)) k

-- what reads give fits their types
abbrev pub FitReads : Graph → (ℕ → ℕ) → Type 0
FitReads g reads = (k : ℕ) (op : Op) → slice_get g.ops k ≡ Some op → role_of op.kind ≡ Read → reads k < 2 ^ op.ty.width

-- a valid graph has values for all that its reads may give
abbrev pub GraphsHaveMeanings : Type 0
GraphsHaveMeanings =
    (g : Graph) (reads : ℕ → ℕ) → IsValidGraph g → FitReads g reads →
    IsMeaning g (terms_of g reads) × ((k : ℕ) (op : Op) → slice_get g.ops k ≡ Some op → role_of op.kind ≡ Read → terms_of g reads k ≡ reads k)
