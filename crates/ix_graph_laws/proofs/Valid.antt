-- The graph of a behaviour is valid.
use Rattle.std.proofs.Common.{◌≡◌, refl, sym, ap, subst, ◌∙◌, ◌⊎◌, inl, inr, ⊎_elim, ℕ, zero, suc, ◌+◌, ◌≤◌, arith, Bool, true, false, List, [], ◌∷◌, length, map, Option, Some, IfSome}
use Rattle.std.specs.Prelude.{slice_get, option_map, All}
use Rattle.std.proofs.lemmas.Bool.{false≢true}
use Rattle.std.proofs.lemmas.Option.{slice_get-map, slice_get_within, slice_get-get_or}
use Rattle.std.proofs.lemmas.List.{length-map}
use Rattle.std.proofs.lemmas.List.Elements.{All-nil, All-cons}
use Rattle.ix_bits.specs.declared.number.Ty.{Ty}
use Rattle.ix_bits.specs.declared.number.Bits.{Bits}
use Rattle.ix_bits.specs.declared.operator.BinOp.{BinOp}
use Rattle.ix_bits.specs.declared.operator.BinOp.TheVariants as b
use Rattle.ix_graph.specs.declared.kind.Kind.{Kind}
use Rattle.ix_graph.specs.declared.kind.Kind.TheVariants as k
use Rattle.ix_graph.specs.declared.args.Arg.{Arg}
use Rattle.ix_graph.specs.declared.args.Arg.TheVariants as arg
use Rattle.ix_graph.specs.declared.graph.Op.{Op}
use Rattle.ix_graph.specs.declared.graph.Graph.{Graph}
use Rattle.ix_graph.specs.Graphs.{IsWrite, IsUnsigned, IsBinaryResult, arg_type, TakesTwo, IsTyped, IsArgument, IsValidOp, HasOneWidth, IsFlagOf, IsValidGraph}
use Rattle.ix_types.specs.Results.{IsBinaryType}
use Rattle.ix_tree.specs.declared.extension.Table.{Table}
use Rattle.ix_mean.specs.Core.{u1, u32, Statement}
use Rattle.ix_mean.specs.Terms.{Term, t_const, t_read, t_one, t_entry, t_two, t_three, type_of, zero_term, Entry}
use Rattle.ix_mean.specs.Order.{Among, write_root, operations, roots}
use Rattle.ix_mean.specs.Typing.{Frame, IsTypedStatement, IsRead, IsOne, IsOperator, IsTwo, IsThree, IsTerm, IsEntry}
use Rattle.ix_mean.specs.View.{raw_of}
use Rattle.ix_mean.proofs.Ordering.{operations_law}
use Rattle.ix_terms.specs.Places.{IsOperation}
use Rattle.ix_flow.specs.Flows.{kind_of_term, args_of_term, AreArgsOf, IsOpOf, AreOpsOf, target_of, flag_at, flag_of}
use Rattle.ix_behaviour.specs.Accesses.{IsAccessType, AccessesAreTyped}
use Rattle.ix_behaviour.specs.Tables.{IsTableRead, TablesAreRead}
use Rattle.ix_graph_laws.specs.Operations.{entries_in}
use Rattle.ix_graph_laws.proofs.Made.{Made, EntryMade}
use Rattle.ix_graph_laws.proofs.Fronts.{place_among, one_place, arg_before}
use Rattle.ix_graph_laws.proofs.Inner.{IsRootLoad, IsWriteOf, IsInner, IsOperationOf, the_loads, the_entries, operation_is}

-- ---- operations and their terms at places
pub record IsOpAt (all ts : List Term) (k : ℕ) (o : Op) : Type 0 where
  pub term : Term
  pub there : slice_get ts k ≡ Some term
  pub is : IsOpOf all term o

pub op_at : (all ts : List Term) (os : List Op) (k : ℕ) (o : Op) → AreOpsOf all ts os → slice_get os k ≡ Some o → IsOpAt all ts k o
op_at all [] [] k o h e = cc
op_at all [] (p ∷ os) k o h e = absurd h
op_at all (t ∷ ts) [] k o h e = cc
op_at all (t ∷ ts) (p ∷ os) zero o h e = (let same : p ≡ o = cc in record { term = t; there = refl; is = subst (IsOpOf all t) same h.0 })
op_at all (t ∷ ts) (p ∷ os) (suc k) o h e = let r = op_at all ts os k o h.1 e in record { term = r.term; there = r.there; is = r.is }

pub record IsTermOp (all : List Term) (os : List Op) (k : ℕ) (t : Term) : Type 0 where
  pub op : Op
  pub there : slice_get os k ≡ Some op
  pub is : IsOpOf all t op

pub term_op : (all ts : List Term) (os : List Op) (k : ℕ) (t : Term) → AreOpsOf all ts os → slice_get ts k ≡ Some t → IsTermOp all os k t
term_op all [] os k t h e = cc
term_op all (s ∷ ts) [] k t h e = absurd h
term_op all (s ∷ ts) (p ∷ os) zero t h e = (let same : s ≡ t = cc in record { op = p; there = refl; is = subst (λ (z : Term). IsOpOf all z p) same h.0 })
term_op all (s ∷ ts) (p ∷ os) (suc k) t h e = let r = term_op all ts os k t h.1 e in record { op = r.op; there = r.there; is = r.is }

pub ops_length : (all ts : List Term) (os : List Op) → AreOpsOf all ts os → length os ≡ length ts
ops_length all [] [] h = refl
ops_length all [] (p ∷ os) h = absurd h
ops_length all (t ∷ ts) [] h = absurd h
ops_length all (t ∷ ts) (p ∷ os) h = ap (λ (n : ℕ). suc n) (ops_length all ts os h.1)

-- ---- kinds that write
write_kind : (kind : Kind) → IsWrite kind → (kind ≡ k.WrRD) ⊎ ((kind ≡ k.WrPC) ⊎ ((kind ≡ k.WrMem) ⊎ ((r : ℕ) × (kind ≡ k.WrCustReg r))))
write_kind k.WrRD h = inl refl
write_kind k.WrPC h = inr (inl refl)
write_kind k.WrMem h = inr (inr (inl refl))
write_kind (k.WrCustReg r) h = inr (inr (inr (r, refl)))
write_kind _ h = absurd h

-- what no write has, no kind that writes has
no_write_kind : (P : Kind → Type 0) (kind : Kind) → (P k.WrRD → ⊥) → (P k.WrPC → ⊥) → (P k.WrMem → ⊥) → ((r : ℕ) → P (k.WrCustReg r) → ⊥) → P kind → IsWrite kind → ⊥
no_write_kind P kind a b c d h w =
    ⊎_elim (λ (e : kind ≡ k.WrRD). a (subst P e h))
    (λ (o : (kind ≡ k.WrPC) ⊎ ((kind ≡ k.WrMem) ⊎ ((r : ℕ) × (kind ≡ k.WrCustReg r)))).
    ⊎_elim (λ (e : kind ≡ k.WrPC). b (subst P e h))
    (λ (o : (kind ≡ k.WrMem) ⊎ ((r : ℕ) × (kind ≡ k.WrCustReg r))).
    ⊎_elim (λ (e : kind ≡ k.WrMem). c (subst P e h)) (λ (o : (r : ℕ) × (kind ≡ k.WrCustReg r)). d o.0 (subst P o.1 h)) o) o)
    (write_kind kind w)

-- a typed term writes nothing
pub inner_no_write : (types : List Ty) (t : Term) → IsTerm types t → IsOperation t → IsWrite (kind_of_term t) → ⊥
inner_no_write types (t_const ty raw) h o w = absurd o
inner_no_write types (t_read kind ty) h o w = no_write_kind (λ z. IsRead types z ty) kind (λ e. e) (λ e. e) (λ e. e) (λ r e. e) h w
inner_no_write types (t_one kind ty a) h o w = no_write_kind (λ z. IsOne z (type_of a) ty) kind (λ e. e) (λ e. e) (λ e. e) (λ r e. e) h.1 w
inner_no_write types (t_entry n es ty a) h o w = absurd w
inner_no_write types (t_two kind ty a b) h o w = no_write_kind (λ z. IsTwo z (type_of a) (type_of b) ty) kind (λ e. e) (λ e. e) (λ e. e) (λ r e. e) h.2 w
inner_no_write types (t_three kind ty a b c) h o w = no_write_kind (λ z. IsThree z (type_of a) (type_of b) (type_of c) ty) kind (λ e. e) (λ e. e) (λ e. e) (λ r e. e) h.3 w

-- a flagged operation is a write
flag_write : (flags : List Bool) (kind : Kind) → flag_at flags (target_of kind) ≡ true → IsWrite kind
flag_write flags k.WrRD e = tt
flag_write flags k.WrPC e = tt
flag_write flags k.WrMem e = tt
flag_write flags (k.WrCustReg r) e = tt
flag_write flags _ e = absurd (false≢true e)

-- ---- types of arguments
pub types_are : (all : List Term) (os : List Op) → AreOpsOf all all os → (ts : List Term) (bs : List Arg) → AreArgsOf all ts bs → map (arg_type os) bs ≡ map (λ t. Some (type_of t)) ts
types_are all os h [] [] g = refl
types_are all os h [] (x ∷ bs) g = absurd g
types_are all os h (t ∷ ts) [] g = absurd g
types_are all os h (t ∷ ts) (arg.Const ty bits ∷ bs) g =
    ap (λ (o : Option Ty). o ∷ map (arg_type os) bs) (ap (λ (z : Term). Some (type_of z)) (sym g.0.0)) ∙ ap (λ (os' : List (Option Ty)). Some (type_of t) ∷ os') (types_are all os h ts bs g.1)
types_are all os h (t ∷ ts) (arg.Op n ∷ bs) g =
    let there : slice_get all n ≡ Some t = slice_get-get_or all n zero_term g.0.1 ∙ ap (λ (z : Term). Some z) g.0.2 in
    let r = term_op all all os n t h there in
    let one : arg_type os (arg.Op n) ≡ Some (type_of t) = ap (option_map (λ (o : Op). o.ty)) r.there ∙ ap (λ (z : Ty). Some z) r.is.ty_is in
    ap (λ (o : Option Ty). o ∷ map (arg_type os) bs) one ∙ ap (λ (os' : List (Option Ty)). Some (type_of t) ∷ os') (types_are all os h ts bs g.1)

none_taken : (all : List Term) (bs : List Arg) → AreArgsOf all [] bs → bs ≡ []
none_taken all [] g = refl
none_taken all (x ∷ bs) g = absurd g

-- ---- validity
module _ (f : Frame) (x : Statement) (ts : List Table) (typed : IsTypedStatement f x) (accesses : AccessesAreTyped x) (tables : TablesAreRead ts x) where
  abbrev pub the_roots : List Term
  the_roots = roots (the_loads f x ts typed accesses tables) (the_entries f x ts typed accesses tables)

  abbrev pub all : List Term
  all = operations the_roots

  abbrev pub types : List Ty
  types = f.targets

  -- the types of targets are those of a behaviour
  pub record AreTargets : Type 0 where
    pub stored : Ty
    pub registers : List Ty
    pub are : f.targets ≡ stored ∷ u32 ∷ u32 ∷ registers
    pub access : IsAccessType stored
    pub few : length registers ≤ 16

  module _ (targets : AreTargets) (g : Graph) (ops : AreOpsOf all all g.ops) (tables_are : g.tables ≡ map entries_in ts) where
    abbrev pub Is : Term → Type 0
    Is t = IsOperationOf ts (the_loads f x ts typed accesses tables) types (the_entries f x ts typed accesses tables) t

    pub what : (k : ℕ) (t : Term) → slice_get all k ≡ Some t → Is t
    what k t e = operation_is f x ts typed accesses tables t (place_among all k t e)

    -- ---- arguments
    abbrev pub Inner : Term → Type 0
    Inner t = IsInner ts (the_loads f x ts typed accesses tables) types t

    one_of : (a u : Term) → Inner a → Among (a ∷ []) u → Inner u
    one_of a u p m = ⊎_elim (λ (e : u ≡ a). subst Inner (sym e) p) (λ (no : ⊥). absurd no) m

    two_of : (a b u : Term) → Inner a → Inner b → Among (a ∷ b ∷ []) u → Inner u
    two_of a b u p q m = ⊎_elim (λ (e : u ≡ a). subst Inner (sym e) p) (λ (r : Among (b ∷ []) u). one_of b u q r) m

    three_of : (a b c u : Term) → Inner a → Inner b → Inner c → Among (a ∷ b ∷ c ∷ []) u → Inner u
    three_of a b c u p q r m = ⊎_elim (λ (e : u ≡ a). subst Inner (sym e) p) (λ (n : Among (b ∷ c ∷ []) u). two_of b c u q r n) m

    inner_args : (t u : Term) → Inner t → Among (args_of_term t) u → Inner u
    inner_args (t_const ty raw) u h m = absurd m
    inner_args (t_read kind ty) u h m = absurd m
    inner_args (t_one kind ty a) u h m = one_of a u (record { typed = h.typed.0; made = h.made }) m
    inner_args (t_entry n es ty a) u h m = one_of a u (record { typed = h.typed.0; made = h.made.1 }) m
    inner_args (t_two kind ty a b) u h m = two_of a b u (record { typed = h.typed.0; made = h.made.1 }) (record { typed = h.typed.1; made = h.made.2 }) m
    inner_args (t_three kind ty a b c) u h m =
        three_of a b c u (record { typed = h.typed.0; made = h.made.0 }) (record { typed = h.typed.1; made = h.made.1 }) (record { typed = h.typed.2; made = h.made.2 }) m

    write_args : (n : ℕ) (e : Entry) (ty : Ty) (u : Term) → IsEntry types ty e → EntryMade ts (IsRootLoad (the_loads f x ts typed accesses tables)) e → Among (args_of_term (write_root n e)) u → Inner u
    write_args zero e ty u h g m =
        three_of e.address e.value e.condition u (record { typed = h.address.typed; made = g.2 }) (record { typed = h.value.typed; made = g.1 }) (record { typed = h.condition.typed; made = g.0 }) m
    write_args (suc zero) e ty u h g m = two_of e.value e.condition u (record { typed = h.value.typed; made = g.1 }) (record { typed = h.condition.typed; made = g.0 }) m
    write_args (suc (suc zero)) e ty u h g m = two_of e.value e.condition u (record { typed = h.value.typed; made = g.1 }) (record { typed = h.condition.typed; made = g.0 }) m
    write_args (suc (suc (suc r))) e ty u h g m = two_of e.value e.condition u (record { typed = h.value.typed; made = g.1 }) (record { typed = h.condition.typed; made = g.0 }) m

    -- an argument is a typed term
    pub arg_inner : (t u : Term) → Is t → Among (args_of_term t) u → Inner u
    arg_inner t u (inl h) m = inner_args t u h m
    arg_inner t u (inr h) m = write_args (0 + h.place) h.entry h.ty u h.typed h.made (subst (λ (z : Term). Among (args_of_term z) u) h.is m)

    arguments : (k : ℕ) (t : Term) → slice_get all k ≡ Some t → (us : List Term) (bs : List Arg) → ((u : Term) → Among us u → Among (args_of_term t) u) → AreArgsOf all us bs → All (IsArgument g.ops k) bs
    arguments k t e [] [] m h = All-nil (IsArgument g.ops k)
    arguments k t e [] (y ∷ bs) m h = absurd h
    arguments k t e (u ∷ us) [] m h = absurd h
    arguments k t e (u ∷ us) (arg.Const ty bits ∷ bs) m h = All-cons (IsArgument g.ops k) (arg.Const ty bits) bs h.0.1 (arguments k t e us bs (λ v n. m v (inr n)) h.1)
    arguments k t e (u ∷ us) (arg.Op n ∷ bs) m h =
        let there : slice_get all n ≡ Some u = slice_get-get_or all n zero_term h.0.1 ∙ ap (λ (z : Term). Some z) h.0.2 in
        let p = arg_before the_roots k t u e (m u (inl refl)) h.0.0 in
        let same : n ≡ p.place = one_place all n p.place u (operations_law the_roots).once there p.there in
        let less = p.before in
        let r = term_op all all g.ops n u ops there in
        let none : IsWrite r.op.kind → ⊥ = λ w. inner_no_write types u (arg_inner t u (what k t e) (m u (inl refl))).typed h.0.0 (subst IsWrite r.is.kind_is w) in
        let some : IfSome (slice_get g.ops n) (λ op. IsWrite op.kind → ⊥) = subst (λ (o : Option Op). IfSome o (λ op. IsWrite op.kind → ⊥)) (sym r.there) none in
        let one : IsArgument g.ops k (arg.Op n) = (omega (arith, same, less), some) in
        All-cons (IsArgument g.ops k) (arg.Op n) bs one (arguments k t e us bs (λ v q. m v (inr q)) h.1)

    -- ---- types
    unsigned_is : (ty : Ty) (w : ℕ) (t : Ty) → t.signed ≡ false → t.width ≡ w → ty ≡ t → IsUnsigned w ty
    unsigned_is ty w t s d e = subst (IsUnsigned w) (sym e) (record { unsigned = s; wide = d })

    word : (ty : Ty) → ty ≡ u32 → IsUnsigned 32 ty
    word ty e = unsigned_is ty 32 u32 refl refl e

    bit : (ty : Ty) → ty ≡ u1 → IsUnsigned 1 ty
    bit ty e = unsigned_is ty 1 u1 refl refl e

    binary_typed : (op : BinOp) (kind : Kind) (a c ty : Ty) (bs : List Arg) → map (arg_type g.ops) bs ≡ Some a ∷ Some c ∷ [] → IsBinaryType op a c ty → TakesTwo g.ops bs (λ u v. IsBinaryResult op u v ty)
    binary_typed op kind a c ty bs e h = (a, c, e, record { exists = h.exists; signed = h.signed; width = h.width })

    read_typed : (kind : Kind) (ty : Ty) (bs : List Arg) → bs ≡ [] → IsRead types kind ty → IsTyped g kind bs ty
    read_typed k.RdInstr ty bs e h = (e, word ty h)
    read_typed k.RdRS1 ty bs e h = (e, word ty h)
    read_typed k.RdRS2 ty bs e h = (e, word ty h)
    read_typed k.RdPC ty bs e h = (e, word ty h)
    read_typed (k.RdCustReg r) ty bs e h = (e, h.0)
    read_typed _ ty bs e h = absurd h

    one_typed : (kind : Kind) (a ty : Ty) (bs : List Arg) → map (arg_type g.ops) bs ≡ Some a ∷ [] → IsOne kind a ty → IsTyped g kind bs ty
    one_typed k.Neg a ty bs e h = (a, e, record { signed = h.signed; width = h.width })
    one_typed k.Not a ty bs e h = (a, e, record { signed = h.signed; width = h.width })
    one_typed k.Lnot a ty bs e h = (a, e, record { signed = h.signed; width = h.width })
    one_typed k.Cast a ty bs e h = (a, e, tt)
    one_typed (k.Range hi lo) a ty bs e h = (a, e, record { order = h.order; within = h.within; bits = record { unsigned = h.unsigned; wide = h.width } })
    one_typed _ a ty bs e h = absurd h

    -- the table that an entry is read from
    pub table_there : (n : ℕ) (es : List ℕ) (ty : Ty) → (r : IsTableRead ts n es ty) → slice_get g.tables n ≡ Some r.table.entries
    table_there n es ty r = ap (λ (z : List (List Bits)). slice_get z n) tables_are ∙ slice_get-map entries_in ts n ∙ ap (option_map entries_in) r.there

    entry_typed : (n : ℕ) (es : List ℕ) (a ty : Ty) (bs : List Arg) → map (arg_type g.ops) bs ≡ Some a ∷ [] → IsTableRead ts n es ty → Rattle.ix_mean.specs.Typing.IsIndexOf es a → IsTyped g (k.Rom n) bs ty
    entry_typed n es a ty bs e r h =
        let there = table_there n es ty r in
        let count : length es ≡ length r.table.entries = ap (λ (z : List ℕ). length z) r.patterns ∙ length-map r.table.entries raw_of in
        let enough = h.enough in
        (a, e, (r.table.entries, there, record { unsigned = h.unsigned; enough = omega (arith, enough, count); entries = r.widths }))

    two_typed : (kind : Kind) (a c ty : Ty) (bs : List Arg) → map (arg_type g.ops) bs ≡ Some a ∷ Some c ∷ [] → (kind ≡ k.RdMem → IsAccessType ty) → IsTwo kind a c ty → IsTyped g kind bs ty
    two_typed k.RdMem a c ty bs e l h = ((a, c, e, (word a h.address, bit c h.condition)), l refl)
    two_typed k.Add a c ty bs e l h = binary_typed b.Add k.Add a c ty bs e h
    two_typed k.Sub a c ty bs e l h = binary_typed b.Sub k.Sub a c ty bs e h
    two_typed k.Mul a c ty bs e l h = binary_typed b.Mul k.Mul a c ty bs e h
    two_typed k.And a c ty bs e l h = binary_typed b.And k.And a c ty bs e h
    two_typed k.Or a c ty bs e l h = binary_typed b.Or k.Or a c ty bs e h
    two_typed k.Xor a c ty bs e l h = binary_typed b.Xor k.Xor a c ty bs e h
    two_typed k.Shl a c ty bs e l h = binary_typed b.Shl k.Shl a c ty bs e h
    two_typed k.Shr a c ty bs e l h = binary_typed b.Shr k.Shr a c ty bs e h
    two_typed k.Eq a c ty bs e l h = binary_typed b.Eq k.Eq a c ty bs e h
    two_typed k.Ne a c ty bs e l h = binary_typed b.Ne k.Ne a c ty bs e h
    two_typed k.Lt a c ty bs e l h = binary_typed b.Lt k.Lt a c ty bs e h
    two_typed k.Le a c ty bs e l h = binary_typed b.Le k.Le a c ty bs e h
    two_typed k.Gt a c ty bs e l h = binary_typed b.Gt k.Gt a c ty bs e h
    two_typed k.Ge a c ty bs e l h = binary_typed b.Ge k.Ge a c ty bs e h
    two_typed k.Land a c ty bs e l h = binary_typed b.Land k.Land a c ty bs e h
    two_typed k.Lor a c ty bs e l h = binary_typed b.Lor k.Lor a c ty bs e h
    two_typed k.Concat a c ty bs e l h = binary_typed b.Concat k.Concat a c ty bs e h
    two_typed _ a c ty bs e l h = absurd h

    three_typed : (kind : Kind) (c a d ty : Ty) (bs : List Arg) → map (arg_type g.ops) bs ≡ Some c ∷ Some a ∷ Some d ∷ [] → IsThree kind c a d ty → IsTyped g kind bs ty
    three_typed k.Mux c a d ty bs e h = (c, a, d, e, (bit c h.condition, record { signed = h.common.signed; width = h.common.width }))
    three_typed _ c a d ty bs e h = absurd h

    loads_access : (kind : Kind) (ty : Ty) (a c : Term) → Made ts (IsRootLoad (the_loads f x ts typed accesses tables)) (t_two kind ty a c) → kind ≡ k.RdMem → IsAccessType ty
    loads_access kind ty a c h e =
        let all_at = subst (λ (z : Kind). Made ts (IsRootLoad (the_loads f x ts typed accesses tables)) (t_two z ty a c)) e h in
        all_at.0.0

    inner_typed : (t : Term) (bs : List Arg) → IsInner ts (the_loads f x ts typed accesses tables) types t → IsOperation t → AreArgsOf all (args_of_term t) bs → IsTyped g (kind_of_term t) bs (type_of t)
    inner_typed (t_const ty raw) bs h o a = absurd o
    inner_typed (t_read kind ty) bs h o a = read_typed kind ty bs (none_taken all bs a) h.typed
    inner_typed (t_one kind ty u) bs h o a = one_typed kind (type_of u) ty bs (types_are all g.ops ops (u ∷ []) bs a) h.typed.1
    inner_typed (t_entry n es ty u) bs h o a = entry_typed n es (type_of u) ty bs (types_are all g.ops ops (u ∷ []) bs a) h.made.0 h.typed.2
    inner_typed (t_two kind ty u v) bs h o a =
        two_typed kind (type_of u) (type_of v) ty bs (types_are all g.ops ops (u ∷ v ∷ []) bs a) (loads_access kind ty u v h.made) h.typed.2
    inner_typed (t_three kind ty u v w) bs h o a =
        three_typed kind (type_of u) (type_of v) (type_of w) ty bs (types_are all g.ops ops (u ∷ v ∷ w ∷ []) bs a) h.typed.3

    some_ty : (a c : Ty) → Some a ≡ Some c → a ≡ c
    some_ty a c e = cc

    -- the type of a target at its place
    at_target : (n : ℕ) (ty : Ty) → slice_get types n ≡ Some ty → slice_get (targets.stored ∷ u32 ∷ u32 ∷ targets.registers) n ≡ Some ty
    at_target n ty e = subst (λ (z : List Ty). slice_get z n ≡ Some ty) targets.are e

    write_typed : (n : ℕ) (e : Entry) (ty : Ty) (bs : List Arg) → IsEntry types ty e → slice_get types n ≡ Some ty → AreArgsOf all (args_of_term (write_root n e)) bs
        → IsTyped g (kind_of_term (write_root n e)) bs (type_of (write_root n e))
    write_typed zero e ty bs h at a =
        let stored : targets.stored ≡ ty = some_ty targets.stored ty (at_target 0 ty at) in
        let access : IsAccessType (type_of e.value) = subst IsAccessType (stored ∙ sym h.value.ty_is) targets.access in (
          (
            type_of e.address,
            type_of e.value,
            type_of e.condition,
            types_are all g.ops ops (e.address ∷ e.value ∷ e.condition ∷ []) bs a,
            (word (type_of e.address) h.address.ty_is, access, bit (type_of e.condition) h.condition.ty_is),
          ),
          record { unsigned = refl; wide = refl },
        )
    write_typed (suc zero) e ty bs h at a =
        let stored : u32 ≡ ty = some_ty u32 ty (at_target 1 ty at) in (
          (type_of e.value, type_of e.condition, types_are all g.ops ops (e.value ∷ e.condition ∷ []) bs a, (word (type_of e.value) (h.value.ty_is ∙ sym stored), bit (type_of e.condition) h.condition.ty_is)),
          record { unsigned = refl; wide = refl },
        )
    write_typed (suc (suc zero)) e ty bs h at a =
        let stored : u32 ≡ ty = some_ty u32 ty (at_target 2 ty at) in (
          (type_of e.value, type_of e.condition, types_are all g.ops ops (e.value ∷ e.condition ∷ []) bs a, (word (type_of e.value) (h.value.ty_is ∙ sym stored), bit (type_of e.condition) h.condition.ty_is)),
          record { unsigned = refl; wide = refl },
        )
    write_typed (suc (suc (suc r))) e ty bs h at a =
        let there : slice_get targets.registers r ≡ Some ty = at_target (suc (suc (suc r))) ty at in
        let few = targets.few in
        let within = slice_get_within targets.registers r ty there in (
          (type_of e.value, type_of e.condition, types_are all g.ops ops (e.value ∷ e.condition ∷ []) bs a, (tt, bit (type_of e.condition) h.condition.ty_is)),
          record { unsigned = refl; wide = refl },
          omega (arith, few, within),
        )

    pub write_is : (t : Term) → (h : IsWriteOf ts (the_loads f x ts typed accesses tables) types types (the_entries f x ts typed accesses tables) 0 t) → t ≡ write_root h.place h.entry
    write_is t h = h.is ∙ ap (λ (j : ℕ). write_root j h.entry) (let e : 0 + h.place ≡ h.place = omega arith in e)

    term_typed : (t : Term) (bs : List Arg) → Is t → IsOperation t → AreArgsOf all (args_of_term t) bs → IsTyped g (kind_of_term t) bs (type_of t)
    term_typed t bs (inl h) o a = inner_typed t bs h o a
    term_typed t bs (inr h) o a =
        let P : Term → Type 0 = λ z. AreArgsOf all (args_of_term z) bs → IsTyped g (kind_of_term z) bs (type_of z) in
        subst P (sym (write_is t h)) (λ c. write_typed h.place h.entry h.ty bs h.typed h.ty_is c) a

    op_valid : (k : ℕ) (o : Op) → slice_get g.ops k ≡ Some o → IsValidOp g k o
    op_valid k o e =
        let r = op_at all all g.ops k o ops e in
        let t = term_typed r.term o.args (what k r.term r.there) r.is.operation r.is.args_are in
        let P : Kind → Type 0 = λ z. IsTyped g z o.args (type_of r.term) in
        let Q : Ty → Type 0 = λ z. IsTyped g o.kind o.args z in
        record {
          arguments = arguments k r.term r.there (args_of_term r.term) o.args (λ u m. m) r.is.args_are;
          typed = subst Q (sym r.is.ty_is) (subst P (sym r.is.kind_is) t);
        }

    flag_is : (flags : List Bool) → g.spawned ≡ map (flag_of flags) g.ops → (k : ℕ) (o : Op) → slice_get g.ops k ≡ Some o → IfSome (slice_get g.spawned k) (IsFlagOf o)
    flag_is flags e k o h =
        let at : slice_get g.spawned k ≡ Some (flag_of flags o) = ap (λ (z : List Bool). slice_get z k) e ∙ slice_get-map (flag_of flags) g.ops k ∙ ap (option_map (flag_of flags)) h in
        subst (λ (z : Option Bool). IfSome z (IsFlagOf o)) (sym at) (λ w. flag_write flags o.kind w)

    pub graph_valid : (flags : List Bool) → length all ≤ 256 → g.spawned ≡ map (flag_of flags) g.ops → All HasOneWidth (map entries_in ts) → IsValidGraph g
    graph_valid flags few e wide =
        let count = ops_length all all g.ops ops in
        let long : length g.spawned ≡ length g.ops = ap (λ (z : List Bool). length z) e ∙ length-map g.ops (flag_of flags) in
        record {
          few = omega (arith, count, few);
          flags = long;
          ops = op_valid;
          spawned = flag_is flags e;
          tables = subst (All HasOneWidth) (sym tables_are) wide;
        }
