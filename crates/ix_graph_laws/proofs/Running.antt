-- What the operations of a graph come to under inputs.
use Rattle.std.proofs.Common.{◌≡◌, refl, sym, ap, subst, ◌∙◌, inl, inr, ℕ, zero, suc, ◌<◌, arith, ℤ, List, [], ◌∷◌, map, Option, Some}
use Rattle.std.specs.Prelude.{slice_get, option_map}
use Rattle.std.specs.List.{AllByRecursion}
use Rattle.std.proofs.lemmas.Option.{slice_get-get_or}
use Rattle.std.proofs.lemmas.List.Elements.{recursion_from_All}
use Rattle.ix_bits.specs.declared.number.Ty.{Ty}
use Rattle.ix_bits.specs.Operators.{value_of}
use Rattle.ix_graph.specs.declared.kind.Kind.{Kind}
use Rattle.ix_graph.specs.declared.kind.Kind.TheVariants as k
use Rattle.ix_graph.specs.declared.args.Arg.{Arg}
use Rattle.ix_graph.specs.declared.args.Arg.TheVariants as arg
use Rattle.ix_graph.specs.declared.graph.Op.{Op}
use Rattle.ix_graph.specs.declared.graph.Graph.{Graph}
use Rattle.ix_graph.specs.declared.role.Role.{Role}
use Rattle.ix_graph.specs.declared.role.Role.TheVariants.{Read, Compute}
use Rattle.ix_graph.specs.Graphs.{arg_type, IsArgument, IsValidGraph}
use Rattle.ix_graph.specs.Roles.{role_of}
use Rattle.ix_tree.specs.declared.extension.Table.{Table}
use Rattle.ix_mean.specs.Core.{Statement}
use Rattle.ix_mean.specs.Meaning.{Inputs}
use Rattle.ix_mean.specs.Terms.{Term, t_const, t_read, t_one, t_entry, t_two, t_three, type_of, binary_of, value, zero_term}
use Rattle.ix_mean.specs.Order.{Among}
use Rattle.ix_mean.specs.Typing.{Frame, IsTypedStatement, IsRead, IsOne, IsOperator, IsTwo, IsThree, AreInputs}
use Rattle.ix_mean.specs.GraphValues.{arg_raw, kind_value, MeansAs, IsMeaning}
use Rattle.ix_mean.proofs.InRange.{value_holds}
use Rattle.ix_terms.specs.Places.{IsOperation}
use Rattle.ix_flow.specs.Flows.{kind_of_term, args_of_term, AreArgsOf, AreOpsOf}
use Rattle.ix_behaviour.specs.Accesses.{AccessesAreTyped}
use Rattle.ix_behaviour.specs.Tables.{TablesAreRead}
use Rattle.ix_graph_laws.specs.Operations.{entries_in}
use Rattle.ix_graph_laws.specs.GraphEffects.{typed_number, arg_number, numbers_of, read_raw, AreReads}
use Rattle.ix_graph_laws.proofs.Values.{AreRaws, one_value, two_value, three_value, entry_value, memory_value}
use Rattle.ix_graph_laws.proofs.Valid.{term_op, types_are, all, AreTargets, Inner, what, arg_inner, table_there}

-- ---- roles of kinds
pub one_role : (kind : Kind) (a ty : Ty) → IsOne kind a ty → role_of kind ≡ Compute
one_role k.Neg a ty h = refl
one_role k.Not a ty h = refl
one_role k.Lnot a ty h = refl
one_role k.Cast a ty h = refl
one_role (k.Range hi lo) a ty h = refl
one_role _ a ty h = absurd h

pub operator_role : (kind : Kind) (a c ty : Ty) → IsOperator (binary_of kind) a c ty → role_of kind ≡ Compute
operator_role k.Add a c ty h = refl
operator_role k.Sub a c ty h = refl
operator_role k.Mul a c ty h = refl
operator_role k.And a c ty h = refl
operator_role k.Or a c ty h = refl
operator_role k.Xor a c ty h = refl
operator_role k.Shl a c ty h = refl
operator_role k.Shr a c ty h = refl
operator_role k.Eq a c ty h = refl
operator_role k.Ne a c ty h = refl
operator_role k.Lt a c ty h = refl
operator_role k.Le a c ty h = refl
operator_role k.Gt a c ty h = refl
operator_role k.Ge a c ty h = refl
operator_role k.Land a c ty h = refl
operator_role k.Lor a c ty h = refl
operator_role k.Concat a c ty h = refl
operator_role _ a c ty h = absurd h

module _ (f : Frame) (x : Statement) (ts : List Table) (typed : IsTypedStatement f x) (accesses : AccessesAreTyped x) (tables : TablesAreRead ts x) (targets : AreTargets f x ts typed accesses tables)
    (g : Graph) (ops : AreOpsOf (all f x ts typed accesses tables) (all f x ts typed accesses tables) g.ops) (tables_are : g.tables ≡ map entries_in ts) (valid : IsValidGraph g) (i : Inputs) (inputs : AreInputs f.targets i)
    (terms : ℕ → ℕ) (means : IsMeaning g terms) (reads : AreReads g i terms) where
  abbrev pub every : List Term
  every = all f x ts typed accesses tables

  abbrev pub IsIn : Term → Type 0
  IsIn t = Inner f x ts typed accesses tables targets g ops tables_are t

  -- ---- one operation, from its arguments
  -- the number of the operation k is that of a term
  abbrev pub Gives : ℕ → Term → Type 0
  Gives k t = value_of (type_of t) (terms k) ≡ value i t

  -- the arguments have their terms' numbers
  pub record HaveNumbers (us : List Term) (bs : List Arg) : Type 0 where
    pub types : map (arg_type g.ops) bs ≡ map (λ t. Some (type_of t)) us
    pub raws : AreRaws i us (map (arg_raw terms) bs)
    pub numbers : map (arg_number g terms) bs ≡ map (value i) us

  args_have : (n : ℕ) (us : List Term) (bs : List Arg) → AreArgsOf every us bs → AllByRecursion (IsArgument g.ops n) bs → ((u : Term) → Among us u → IsIn u)
      → ((j : ℕ) (u : Term) → j < n → slice_get every j ≡ Some u → IsIn u → Gives j u) → HaveNumbers us bs
  args_have n [] [] h a p s = record { types = refl; raws = tt; numbers = refl }
  args_have n [] (y ∷ bs) h a p s = absurd h
  args_have n (u ∷ us) [] h a p s = absurd h
  args_have n (u ∷ us) (arg.Const ty bits ∷ bs) h a p s =
      let rest = args_have n us bs h.1 a.1 (λ v m. p v (inr m)) s in
      let same : value_of (type_of u) bits.raw ≡ value i u = ap (λ (z : Term). value_of (type_of z) bits.raw) h.0.0 ∙ ap (value i) (sym h.0.0) in
      let number : value_of ty bits.raw ≡ value i u = ap (value i) (sym h.0.0) in
      record {
        types = types_are every g.ops ops (u ∷ us) (arg.Const ty bits ∷ bs) h;
        raws = (same, rest.raws);
        numbers = ap (λ (z : ℤ). z ∷ map (arg_number g terms) bs) number ∙ ap (λ (zs : List ℤ). value i u ∷ zs) rest.numbers;
      }
  args_have n (u ∷ us) (arg.Op j ∷ bs) h a p s =
      let rest = args_have n us bs h.1 a.1 (λ v m. p v (inr m)) s in
      let there : slice_get every j ≡ Some u = slice_get-get_or every j zero_term h.0.1 ∙ ap (λ (z : Term). Some z) h.0.2 in
      let r = term_op every every g.ops j u ops there in
      let gives = s j u a.0.0 there (p u (inl refl)) in
      let ty : arg_type g.ops (arg.Op j) ≡ Some (type_of u) = ap (option_map (λ (o : Op). o.ty)) r.there ∙ ap (λ (z : Ty). Some z) r.is.ty_is in
      let number : arg_number g terms (arg.Op j) ≡ value i u = ap (λ (o : Option Ty). typed_number o (terms j)) ty ∙ gives in
      record {
        types = types_are every g.ops ops (u ∷ us) (arg.Op j ∷ bs) h;
        raws = (gives, rest.raws);
        numbers = ap (λ (z : ℤ). z ∷ map (arg_number g terms) bs) number ∙ ap (λ (zs : List ℤ). value i u ∷ zs) rest.numbers;
      }

  -- what the roles say
  computes : (n : ℕ) (o : Op) (kind : Kind) (types : List (Option Ty)) → slice_get g.ops n ≡ Some o → o.kind ≡ kind → role_of kind ≡ Compute → map (arg_type g.ops) o.args ≡ types
      → terms n ≡ kind_value g.tables kind types (map (arg_raw terms) o.args) o.ty
  computes n o kind types e h r t =
      let P : Role → Type 0 = λ z. MeansAs z g terms n o in
      let is : terms n ≡ kind_value g.tables o.kind (map (arg_type g.ops) o.args) (map (arg_raw terms) o.args) o.ty = subst P (ap role_of h ∙ r) (means n o e) in
      is ∙ ap (λ (z : Kind). kind_value g.tables z (map (arg_type g.ops) o.args) (map (arg_raw terms) o.args) o.ty) h
      ∙ ap (λ (z : List (Option Ty)). kind_value g.tables kind z (map (arg_raw terms) o.args) o.ty) t

  reads_as : (n : ℕ) (o : Op) (kind : Kind) (numbers : List ℤ) → slice_get g.ops n ≡ Some o → o.kind ≡ kind → role_of kind ≡ Read → numbers_of g terms o ≡ numbers → terms n ≡ read_raw i kind o.ty numbers
  reads_as n o kind numbers e h r t =
      reads n o e (ap role_of h ∙ r) ∙ ap (λ (z : Kind). read_raw i z o.ty (numbers_of g terms o)) h ∙ ap (read_raw i kind o.ty) t

  -- the operation of a term, with the type of the term
  at_type : (t : Term) (n : ℕ) (raw : ℕ) → terms n ≡ raw → value_of (type_of t) raw ≡ value i t → Gives n t
  at_type t n raw e h = ap (value_of (type_of t)) e ∙ h

  read_gives : (kind : Kind) (ty : Ty) (n : ℕ) (o : Op) → slice_get g.ops n ≡ Some o → o.kind ≡ kind → o.ty ≡ ty → IsRead f.targets kind ty → Gives n (t_read kind ty)
  read_gives k.RdInstr ty n o e h y r = ap (value_of ty) (reads_as n o k.RdInstr (numbers_of g terms o) e h refl refl)
  read_gives k.RdRS1 ty n o e h y r = ap (value_of ty) (reads_as n o k.RdRS1 (numbers_of g terms o) e h refl refl)
  read_gives k.RdRS2 ty n o e h y r = ap (value_of ty) (reads_as n o k.RdRS2 (numbers_of g terms o) e h refl refl)
  read_gives k.RdPC ty n o e h y r = ap (value_of ty) (reads_as n o k.RdPC (numbers_of g terms o) e h refl refl)
  read_gives (k.RdCustReg c) ty n o e h y r = ap (value_of ty) (reads_as n o (k.RdCustReg c) (numbers_of g terms o) e h refl refl)
  read_gives _ ty n o e h y r = absurd r

  one_gives : (kind : Kind) (ty : Ty) (u : Term) (n : ℕ) (o : Op) → slice_get g.ops n ≡ Some o → o.kind ≡ kind → o.ty ≡ ty → IsIn (t_one kind ty u) → HaveNumbers (u ∷ []) o.args → Gives n (t_one kind ty u)
  one_gives kind ty u n o e h y p a =
      let c = computes n o kind (Some (type_of u) ∷ []) e h (one_role kind (type_of u) ty p.typed.1) a.types in
      at_type (t_one kind ty u) n _ (c ∙ ap (kind_value g.tables kind (Some (type_of u) ∷ []) (map (arg_raw terms) o.args)) y)
      (one_value i g.tables kind u ty (map (arg_raw terms) o.args) a.raws p.typed.1 (value_holds f.targets i inputs (t_one kind ty u) p.typed))

  two_raws : (u v : Term) (raws : List ℕ) (P : List ℕ → Type 0) → AreRaws i (u ∷ v ∷ []) raws → ((q r : ℕ) → value_of (type_of u) q ≡ value i u → value_of (type_of v) r ≡ value i v → P (q ∷ r ∷ [])) → P raws
  two_raws u v [] P h d = absurd h
  two_raws u v (q ∷ []) P h d = absurd h.1
  two_raws u v (q ∷ r ∷ []) P h d = d q r h.0 h.1.0
  two_raws u v (q ∷ r ∷ s ∷ raws) P h d = absurd h.1.1

  one_raw : (u : Term) (raws : List ℕ) (P : List ℕ → Type 0) → AreRaws i (u ∷ []) raws → ((q : ℕ) → value_of (type_of u) q ≡ value i u → P (q ∷ [])) → P raws
  one_raw u [] P h d = absurd h
  one_raw u (q ∷ []) P h d = d q h.0
  one_raw u (q ∷ r ∷ raws) P h d = absurd h.1

  three_raws : (c u v : Term) (raws : List ℕ) (P : List ℕ → Type 0) → AreRaws i (c ∷ u ∷ v ∷ []) raws
      → ((p q r : ℕ) → value_of (type_of c) p ≡ value i c → value_of (type_of u) q ≡ value i u → value_of (type_of v) r ≡ value i v → P (p ∷ q ∷ r ∷ [])) → P raws
  three_raws c u v [] P h d = absurd h
  three_raws c u v (p ∷ raws) P h d = two_raws u v raws (λ z. P (p ∷ z)) h.1 (λ q r e s. d p q r h.0 e s)

  entry_gives : (m : ℕ) (es : List ℕ) (ty : Ty) (u : Term) (n : ℕ) (o : Op) → slice_get g.ops n ≡ Some o → o.kind ≡ k.Rom m → o.ty ≡ ty → IsIn (t_entry m es ty u) → HaveNumbers (u ∷ []) o.args
      → Gives n (t_entry m es ty u)
  entry_gives m es ty u n o e h y p a =
      let c = computes n o (k.Rom m) (Some (type_of u) ∷ []) e h refl a.types in
      let table = p.made.0 in
      at_type (t_entry m es ty u) n _ (c ∙ ap (kind_value g.tables (k.Rom m) (Some (type_of u) ∷ []) (map (arg_raw terms) o.args)) y)
      (one_raw u (map (arg_raw terms) o.args) (λ z. value_of ty (kind_value g.tables (k.Rom m) (Some (type_of u) ∷ []) z ty) ≡ value i (t_entry m es ty u)) a.raws
      (λ q d. entry_value i g.tables m table.table.entries es u ty (Some (type_of u) ∷ []) q (table_there f x ts typed accesses tables targets g ops tables_are m es ty table) table.patterns p.typed.2.unsigned d))

  operator_gives : (kind : Kind) (ty : Ty) (u v : Term) (n : ℕ) (o : Op) → slice_get g.ops n ≡ Some o → o.kind ≡ kind → o.ty ≡ ty → IsIn (t_two kind ty u v) → HaveNumbers (u ∷ v ∷ []) o.args
      → IsOperator (binary_of kind) (type_of u) (type_of v) ty → Gives n (t_two kind ty u v)
  operator_gives kind ty u v n o e h y p a w =
      let c = computes n o kind (Some (type_of u) ∷ Some (type_of v) ∷ []) e h (operator_role kind (type_of u) (type_of v) ty w) a.types in
      at_type (t_two kind ty u v) n _ (c ∙ ap (kind_value g.tables kind (Some (type_of u) ∷ Some (type_of v) ∷ []) (map (arg_raw terms) o.args)) y)
      (two_raws u v (map (arg_raw terms) o.args) (λ z. value_of ty (kind_value g.tables kind (Some (type_of u) ∷ Some (type_of v) ∷ []) z ty) ≡ value i (t_two kind ty u v)) a.raws
      (λ q r d s. two_value i g.tables kind u v ty q r d s w (value_holds f.targets i inputs (t_two kind ty u v) p.typed)))

  load_gives : (ty : Ty) (u v : Term) (n : ℕ) (o : Op) → slice_get g.ops n ≡ Some o → o.kind ≡ k.RdMem → o.ty ≡ ty → HaveNumbers (u ∷ v ∷ []) o.args → Gives n (t_two k.RdMem ty u v)
  load_gives ty u v n o e h y a =
      let c = reads_as n o k.RdMem (value i u ∷ value i v ∷ []) e h refl a.numbers in
      at_type (t_two k.RdMem ty u v) n _ (c ∙ ap (λ (z : Ty). read_raw i k.RdMem z (value i u ∷ value i v ∷ [])) y) (memory_value i ty (value i u) (value i v))

  two_gives : (kind : Kind) (ty : Ty) (u v : Term) (n : ℕ) (o : Op) → slice_get g.ops n ≡ Some o → o.kind ≡ kind → o.ty ≡ ty → IsIn (t_two kind ty u v) → HaveNumbers (u ∷ v ∷ []) o.args
      → IsTwo kind (type_of u) (type_of v) ty → Gives n (t_two kind ty u v)
  two_gives k.RdMem ty u v n o e h y p a w = load_gives ty u v n o e h y a
  two_gives kind ty u v n o e h y p a w = operator_gives kind ty u v n o e h y p a w

  three_gives : (kind : Kind) (ty : Ty) (c u v : Term) (n : ℕ) (o : Op) → slice_get g.ops n ≡ Some o → o.kind ≡ kind → o.ty ≡ ty → IsIn (t_three kind ty c u v) → HaveNumbers (c ∷ u ∷ v ∷ []) o.args
      → IsThree kind (type_of c) (type_of u) (type_of v) ty → Gives n (t_three kind ty c u v)
  three_gives k.Mux ty c u v n o e h y p a w =
      let d = computes n o k.Mux (Some (type_of c) ∷ Some (type_of u) ∷ Some (type_of v) ∷ []) e h refl a.types in
      at_type (t_three k.Mux ty c u v) n _ (d ∙ ap (kind_value g.tables k.Mux (Some (type_of c) ∷ Some (type_of u) ∷ Some (type_of v) ∷ []) (map (arg_raw terms) o.args)) y)
      (three_raws c u v (map (arg_raw terms) o.args)
      (λ z. value_of ty (kind_value g.tables k.Mux (Some (type_of c) ∷ Some (type_of u) ∷ Some (type_of v) ∷ []) z ty) ≡ value i (t_three k.Mux ty c u v)) a.raws
      (λ q r s d e b. three_value i g.tables c u v ty q r s d e b (value_holds f.targets i inputs (t_three k.Mux ty c u v) p.typed)))
  three_gives _ ty c u v n o e h y p a w = absurd w

  term_gives : (t : Term) (n : ℕ) (o : Op) → slice_get g.ops n ≡ Some o → o.kind ≡ kind_of_term t → o.ty ≡ type_of t → IsOperation t → IsIn t → HaveNumbers (args_of_term t) o.args → Gives n t
  term_gives (t_const ty raw) n o e h y p q a = absurd p
  term_gives (t_read kind ty) n o e h y p q a = read_gives kind ty n o e h y q.typed
  term_gives (t_one kind ty u) n o e h y p q a = one_gives kind ty u n o e h y q a
  term_gives (t_entry m es ty u) n o e h y p q a = entry_gives m es ty u n o e h y q a
  term_gives (t_two kind ty u v) n o e h y p q a = two_gives kind ty u v n o e h y q a q.typed.2
  term_gives (t_three kind ty c u v) n o e h y p q a = three_gives kind ty c u v n o e h y q a q.typed.3

  -- ---- all operations, from the first
  -- arguments of the operation n, where those before it have their numbers
  numbers_at : (n : ℕ) (t : Term) (o : Op) → slice_get every n ≡ Some t → slice_get g.ops n ≡ Some o → AreArgsOf every (args_of_term t) o.args
      → ((j : ℕ) (u : Term) → j < n → slice_get every j ≡ Some u → IsIn u → Gives j u) → HaveNumbers (args_of_term t) o.args
  numbers_at n t o there e a s =
      args_have n (args_of_term t) o.args a (recursion_from_All (IsArgument g.ops n) o.args (valid.ops n o e).arguments)
      (λ u m. arg_inner f x ts typed accesses tables targets g ops tables_are t u (what f x ts typed accesses tables targets g ops tables_are n t there) m) s

  upto : (m n : ℕ) (t : Term) → n < m → slice_get every n ≡ Some t → IsIn t → Gives n t
  upto zero n t l e p = absurd (omega (arith, l))
  upto (suc m) n t l e p =
      let r = term_op every every g.ops n t ops e in
      term_gives t n r.op r.there r.is.kind_is r.is.ty_is r.is.operation p
      (numbers_at n t r.op e r.there r.is.args_are (λ j u d b q. upto m j u (omega (arith, l, d)) b q))

  pub gives : (n : ℕ) (t : Term) → slice_get every n ≡ Some t → IsIn t → Gives n t
  gives n t e p = upto (suc n) n t (omega arith) e p

  pub args_give : (n : ℕ) (t : Term) (o : Op) → slice_get every n ≡ Some t → slice_get g.ops n ≡ Some o → AreArgsOf every (args_of_term t) o.args → numbers_of g terms o ≡ map (value i) (args_of_term t)
  args_give n t o e h a = (numbers_at n t o e h a (λ j u d b q. gives j u b q)).numbers
