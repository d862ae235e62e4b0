-- A search for the operations of a term, with a list of what is left.
use Rattle.std.specs.Prelude.{◌≡◌, ℕ, ◌+◌, ◌*◌, ◌<◌, List, [], ◌∷◌, ◌++◌, Result, Ok, Err}
use Rattle.std.specs.List.{AllByRecursion}
use Rattle.ix_mean.specs.Terms.{Term, t_const, t_read, t_one, t_entry, t_two, t_three}
use Rattle.ix_mean.specs.Order.{postorder, add_all, Among}
use Rattle.ix_terms.specs.Stores.{Stock, at, size}
use Rattle.ix_flow.specs.declared.error.FlowErr.{FlowErr}
use Rattle.ix_flow.specs.declared.order.Task.{Task}
use Rattle.ix_flow.specs.declared.order.Task.TheVariants.{Enter, Leave}
use Rattle.ix_flow.specs.Orders.{terms_at, IsOrder, below_term, itself}

-- the terms that a task is to put
abbrev pub task_terms : Stock → Task → List Term
task_terms s (Enter k) = postorder (at s k)
task_terms s (Leave k) = itself (at s k)

abbrev pub task_place : Task → ℕ
task_place (Enter k) = k
task_place (Leave k) = k

-- the terms that are to be put: those of the last task first
abbrev pub pending : Stock → List Task → List Term
pending s [] = []
pending s (t ∷ ts) = pending s ts ++ task_terms s t

-- the arguments of a term that is to be put are there
abbrev pub IsReady : Stock → List Term → Task → Type 0
IsReady s xs (Enter k) = Unit {0}
IsReady s xs (Leave k) = (u : Term) → Among (below_term (at s k)) u → Among xs u

-- each task is ready behind the tasks after it
abbrev pub AreReady : Stock → List Term → List Task → Type 0
AreReady s xs [] = Unit {0}
AreReady s xs (t ∷ ts) = IsReady s (xs ++ pending s ts) t × AreReady s xs ts

-- how often a term is looked at, at most, where none is met twice
abbrev pub term_size : Term → ℕ
term_size (t_const ty raw) = 1
term_size (t_read k ty) = 1
term_size (t_one k ty a) = 1 + term_size a
term_size (t_entry n es ty a) = 1 + term_size a
term_size (t_two k ty a b) = 1 + term_size a + term_size b
term_size (t_three k ty a b c) = 1 + term_size a + term_size b + term_size c

abbrev pub weight : Stock → Task → ℕ
weight s (Enter k) = 2 * term_size (at s k)
weight s (Leave k) = 1

abbrev pub weights : Stock → List Task → ℕ
weights s [] = 0
weights s (t ∷ ts) = weight s t + weights s ts

abbrev pub IsExtended : List Task → List Task → List Task → Result (Unit {0}) FlowErr → Type 0
IsExtended old new more (Ok x) = new ≡ old ++ more
IsExtended old new more (Err e) = e ≡ Rattle.ix_flow.specs.declared.error.FlowErr.TheVariants.Memory

-- a task was done: others stand in its place
pub record HasStepped (s : Stock) (old new : List ℕ) (rest tasks : List Task) (t : Task) : Type 0 where
  pub more : List Task
  pub whole : tasks ≡ rest ++ more
  pub order : IsOrder s new
  pub same : add_all (terms_at s old) (task_terms s t) ≡ add_all (terms_at s new) (pending s more)
  pub keeps : (u : Term) → Among (terms_at s old ++ task_terms s t) u → Among (terms_at s new ++ pending s more) u
  pub ready : AreReady s (terms_at s new) more
  pub below : AllByRecursion (λ x. task_place x < size s) more
  pub less : weights s more < weight s t

-- what is left of a search puts what the whole of it puts
pub record IsSearching (s : Stock) (old now : List ℕ) (tasks : List Task) (us : List Term) : Type 0 where
  pub order : IsOrder s now
  pub same : add_all (terms_at s now) (pending s tasks) ≡ add_all (terms_at s old) us
  pub ready : AreReady s (terms_at s now) tasks
  pub below : AllByRecursion (λ x. task_place x < size s) tasks
