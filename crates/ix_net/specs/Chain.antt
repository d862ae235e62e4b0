-- Steps one after another.

-- one or more steps lead from the first to the second
pub data Chain {N : Type 0} (Step : N → N → Type 0) : N → N → Type 0 where
  one : {x y : N} → Step x y → Chain Step x y
  more : {x y z : N} → Chain Step x y → Step y z → Chain Step x z
