-- An answer that tells the truth tells the one verdict.
use Rattle.std.proofs.Common.{List, Result, Ok, Err, IfOk, IfErr}
use Rattle.ix_tree.specs.declared.token.Token.{Token}
use Rattle.ix_tree.specs.declared.section.Tree.{Tree}
use Rattle.ix_tree.specs.Parsing.{Verdict, is_tree, refused_at, too_deep_at, IsVerdict}
use Rattle.ix_tree.specs.View.{view_tree, DerivesTree}
use Rattle.ix_tree.proofs.Verdicts.{one_verdict}
use Rattle.ix_parse.specs.declared.error.ParseErr.{ParseErr}
use Rattle.ix_parse.specs.declared.error.ParseErr.TheVariants.{At, Deep, Memory}
use Rattle.ix_parse.specs.Answers.{IsAnswer, IsTold}

pub answered : (ts : List Token) (result : Result Tree ParseErr) → IfOk result (λ tree. DerivesTree ts tree) → IfErr result (λ e. IsTold ts e)
    → (v : Verdict) → IsVerdict ts v → IsAnswer result v
answered ts (Ok tree) found told v is = one_verdict ts v (is_tree (view_tree tree)) is found
answered ts (Err (At n)) found told v is = one_verdict ts v (refused_at n) is told
answered ts (Err (Deep n)) found told v is = one_verdict ts v (too_deep_at n) is told
answered ts (Err Memory) found told v is = tt
