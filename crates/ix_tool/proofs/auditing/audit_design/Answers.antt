use Rattle.std.proofs.Common.{inl, inr}
use Rattle.ix_tool.proofs.auditing.audit_design.Goals as goal

pub returns-in-Err : goal.returns-in-Err
returns-in-Err g c = elim c.in-Err.ensures.refused [
  | inl fault ↦ elim c.refuse_error.ensures.line [
    | inl memory ↦ inl memory
    | inr told ↦ inr (inl (c.in-Err.error, fault, told))
  ]
  | inr memory ↦ inl (c.refuse_error.ensures.memory memory)
]
