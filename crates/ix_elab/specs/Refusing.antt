-- Why a text has no extension: the first thing that is refused, in the order in which a text is read, unrolled, typed and encoded (this project's choice).
use Rattle.std.specs.Prelude.{◌≡◌, ◌<◌, ℕ, List, length, Option, Some, None, Bool, true, false, slice_get, Result, Ok, Err, ◌⊎◌}
use Rattle.ix_tree.specs.declared.token.Span.{Span}
use Rattle.ix_tree.specs.declared.token.Token.{Token}
use Rattle.ix_tree.specs.declared.extension.Extension.{Extension}
use Rattle.ix_tree.specs.Lexing.{Lexes}
use Rattle.ix_tree.specs.Parsing.{IsRefusedAt, IsTooDeepAt}
use Rattle.ix_tree.specs.Trees.{TextTree}
use Rattle.ix_tree.specs.TypedTrees.{TypedTextTree}
use Rattle.ix_tree.specs.Unrolling.{outcome, refused, bound_at, turns_at, assigned_at, size_at}
use Rattle.ix_typing.specs.Texts.{judged_text}
use Rattle.ix_lex.specs.Refusals.{IsRefusal}
use Rattle.ix_unroll.specs.declared.error.UnrollErr.{UnrollErr}
use Rattle.ix_unroll.specs.declared.error.UnrollErr.TheVariants as U
use Rattle.ix_typing.specs.Refusals.{Refusal}
use Rattle.ix_check_parts.specs.declared.error.CheckErr.{CheckErr}
use Rattle.ix_check_parts.specs.declared.error.CheckErr.TheVariants as C
use Rattle.ix_check_parts.specs.Telling.{refusal_of}
use Rattle.ix_extension.specs.Faults.{Fault, first_fault, encoding_width, field_twice, too_many, base_overlap, overlap, two_pc_blocks}
use Rattle.ix_elab.specs.declared.error.FrontErr.{FrontErr}
use Rattle.ix_elab.specs.declared.error.FrontErr.TheVariants as F
use Rattle.ix_elab.specs.Elaborating.{IsTree, IsUnrolled, HasTypes}

-- where the n-th token stands; behind the last one the end of a text of so many bytes
abbrev pub span_of : ℕ → Option Token → Span
span_of end (Some t) = t.span
span_of end None = record { from = end; to = end }

abbrev pub span_at : List Token → ℕ → ℕ → Span
span_at ts n end = span_of end (slice_get ts n)

-- the tokens are no text from token n on, or token n nests too deep
abbrev pub IsRefusedBy : Bool → List Token → ℕ → Type 0
IsRefusedBy false ts n = IsRefusedAt ts n
IsRefusedBy true ts n = IsTooDeepAt ts n

-- the text's tokens are refused at the token that stands there
pub record IsNoText (bytes : List ℕ) (s : Span) (deep : Bool) : Type 0 where
  pub tokens : List Token
  pub token : ℕ
  pub lexed : Lexes bytes tokens
  pub refused : IsRefusedBy deep tokens token
  pub place : s ≡ span_at tokens token (length bytes)

-- what is told of tokens that are no text of so many bytes
abbrev pub IsNoTree : List Token → ℕ → FrontErr → Type 0
IsNoTree ts end (F.Parse s deep) = (n : ℕ) × IsRefusedBy deep ts n × (s ≡ span_at ts n end)
IsNoTree ts end F.Memory = Unit {0}
IsNoTree ts end _ = ⊥

-- the outcome of unrolling is this refusal
abbrev pub Unrolls : UnrollErr → TextTree → Type 0
Unrolls (U.Bound s) t = outcome t ≡ refused (bound_at s)
Unrolls (U.Turns s) t = outcome t ≡ refused (turns_at s)
Unrolls (U.Assigned s) t = outcome t ≡ refused (assigned_at s)
Unrolls (U.Size s) t = outcome t ≡ refused (size_at s)
Unrolls U.Memory t = ⊥

pub record IsNotUnrolled (bytes : List ℕ) (e : UnrollErr) : Type 0 where
  pub text : TextTree
  pub tree : IsTree bytes text
  pub refused : Unrolls e text

pub record IsNotTyped (bytes : List ℕ) (e : CheckErr) : Type 0 where
  pub text : TextTree
  pub tree : IsUnrolled bytes text
  pub refusal : Refusal
  pub told : refusal_of e ≡ Some refusal
  pub judged : judged_text text ≡ Err refusal

pub record IsBroken (bytes : List ℕ) (f : Fault) : Type 0 where
  pub text : TypedTextTree
  pub typed : HasTypes bytes text
  pub first : first_fault text ≡ Some f

-- the error is what is refused first; nothing is said of want of memory
abbrev pub IsCause : List ℕ → FrontErr → Type 0
IsCause bytes (F.Lex e) = IsRefusal bytes e
IsCause bytes (F.Parse s deep) = IsNoText bytes s deep
IsCause bytes (F.Unroll e) = IsNotUnrolled bytes e
IsCause bytes (F.Check e) = IsNotTyped bytes e
IsCause bytes (F.EncodingWidth a) = IsBroken bytes (encoding_width a)
IsCause bytes (F.FieldTwice a) = IsBroken bytes (field_twice a)
IsCause bytes F.TooMany = IsBroken bytes too_many
IsCause bytes (F.BaseOverlap a word) = IsBroken bytes (base_overlap a word)
IsCause bytes (F.Overlap a b word) = IsBroken bytes (overlap a b word)
IsCause bytes F.TwoPcBlocks = IsBroken bytes two_pc_blocks
IsCause bytes F.Memory = Unit {0}

-- the error tells this rule, or want of memory
abbrev pub IsBrokenAs : Option Fault → FrontErr → Type 0
IsBrokenAs None e = e ≡ F.Memory
IsBrokenAs (Some (encoding_width a)) e = e ≡ F.EncodingWidth a
IsBrokenAs (Some (field_twice a)) e = e ≡ F.FieldTwice a
IsBrokenAs (Some too_many) e = e ≡ F.TooMany
IsBrokenAs (Some (base_overlap a word)) e = e ≡ F.BaseOverlap a word
IsBrokenAs (Some (overlap a b word)) e = e ≡ F.Overlap a b word
IsBrokenAs (Some two_pc_blocks) e = e ≡ F.TwoPcBlocks

-- the error is not want of memory, and is what is refused first
pub record IsRefused (bytes : List ℕ) (e : FrontErr) : Type 0 where
  pub some : e ≡ F.Memory → ⊥
  pub cause : IsCause bytes e

-- the answer is this error unless memory fails
abbrev pub IsErr : Result Extension FrontErr → FrontErr → Type 0
IsErr r e = (r ≡ Err e) ⊎ (r ≡ Err F.Memory)

-- want of memory is told as such, whichever step it was in
abbrev pub of_unroll : UnrollErr → FrontErr
of_unroll U.Memory = F.Memory
of_unroll (U.Bound s) = F.Unroll (U.Bound s)
of_unroll (U.Turns s) = F.Unroll (U.Turns s)
of_unroll (U.Assigned s) = F.Unroll (U.Assigned s)
of_unroll (U.Size s) = F.Unroll (U.Size s)

abbrev pub of_check : CheckErr → FrontErr
of_check C.Memory = F.Memory
of_check (C.Unknown s) = F.Check (C.Unknown s)
of_check (C.Twice s) = F.Check (C.Twice s)
of_check (C.Narrow s) = F.Check (C.Narrow s)
of_check (C.TooWide s) = F.Check (C.TooWide s)
of_check (C.Mixed s) = F.Check (C.Mixed s)
of_check (C.Range s) = F.Check (C.Range s)
of_check (C.Index s) = F.Check (C.Index s)
of_check (C.ReadAfterWrite s) = F.Check (C.ReadAfterWrite s)
of_check (C.DoubleWrite s) = F.Check (C.DoubleWrite s)
of_check (C.SecondAccess s) = F.Check (C.SecondAccess s)
of_check (C.InSpawn s) = F.Check (C.InSpawn s)
of_check (C.Rom s) = F.Check (C.Rom s)
