-- The extension of a text: its tokens, their tree, the tree without loops, its types, and the encodings (CoreDSL 2; the profile and its rules are this project's choice).
use Rattle.std.specs.Prelude.{◌≡◌, ℕ, List, None, Ok}
use Rattle.ix_tree.specs.declared.token.Token.{Token}
use Rattle.ix_tree.specs.Lexing.{Lexes}
use Rattle.ix_tree.specs.Grammar.{Derives}
use Rattle.ix_tree.specs.Trees.{TextTree}
use Rattle.ix_tree.specs.TypedTrees.{TypedTextTree}
use Rattle.ix_tree.specs.Unrolling.{outcome, without_loops}
use Rattle.ix_typing.specs.Texts.{judged_text}
use Rattle.ix_extension.specs.Extensions.{ExtensionTree, extension_of}
use Rattle.ix_extension.specs.Faults.{first_fault}

-- the tree that the text's tokens derive
pub record IsTree (bytes : List ℕ) (t : TextTree) : Type 0 where
  pub tokens : List Token
  pub lexed : Lexes bytes tokens
  pub derived : Derives tokens t

-- the text's tree without loops
pub record IsUnrolled (bytes : List ℕ) (t : TextTree) : Type 0 where
  pub looped : TextTree
  pub tree : IsTree bytes looped
  pub unrolled : outcome looped ≡ without_loops t

-- the text's tree without loops, with its types
pub record HasTypes (bytes : List ℕ) (t : TypedTextTree) : Type 0 where
  pub flat : TextTree
  pub tree : IsUnrolled bytes flat
  pub judged : judged_text flat ≡ Ok t

-- the text's extension, which breaks no rule
pub record Elaborates (bytes : List ℕ) (x : ExtensionTree) : Type 0 where
  pub text : TypedTextTree
  pub typed : HasTypes bytes text
  pub sound : first_fault text ≡ None
  pub parts : x ≡ extension_of text
