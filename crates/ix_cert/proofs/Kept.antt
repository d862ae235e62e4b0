-- What was read is the items that were read, in the range of their form, and can be gone on with to a report.
use Rattle.std.proofs.Common.{◌≡◌, ◌≢◌, ℕ, ◌+◌, ◌-◌, ◌<◌, ◌≤◌, ◌^◌, List, [], ◌∷◌, ◌++◌, length, get_or, refl, sym, ap, ◌∙◌, subst, arith, lit<, append_assoc, length-append, ◌⊎◌, inl, inr, Option, Some, None, Bool, true, false}
use Rattle.std.specs.Prelude.{map, All, AllPairs}
use Rattle.std.specs.List.{flat_map}
use Rattle.std.proofs.lemmas.List.{append-nil}
use Rattle.std.proofs.lemmas.Grind.{flat_map-append}
use Rattle.std.proofs.lemmas.List.Elements.{All-nil, All-push}
use Rattle.std.proofs.lemmas.List.Quantifiers.{all_pairs_push}
use Rattle.std.proofs.lemmas.Option.{slice_get-get_or}
use Rattle.ix_graph.specs.declared.graph.Mode.{Mode}
use Rattle.ix_sheet.specs.declared.problem.Node.{Node}
use Rattle.ix_sheet.specs.declared.problem.Bound.{Bound}
use Rattle.ix_cert.specs.declared.item.Item.{Item}
use Rattle.ix_cert.specs.declared.item.Item.TheVariants.{Title, Period, Behaviour, Op, Edge, Cost, Flow, Cycle, End}
use Rattle.ix_cert.specs.declared.item.Operation.{Operation}
use Rattle.ix_cert.specs.declared.report.ReportBlock.{ReportBlock}
use Rattle.ix_cert.specs.declared.state.Place.{Place}
use Rattle.ix_cert.specs.declared.state.Place.TheVariants as place
use Rattle.ix_cert.specs.declared.state.Reading.{Reading}
use Rattle.ix_cert.specs.Layout.{Line, is_weighted, HasWeight, IsName, IsKindName, IsNodeInForm, IsBlockInForm, IsBoundInForm, IsPartInForm, IsEdgeInForm, IsBefore, HasCertificate}
use Rattle.ix_cert.specs.Items.{IsItem, IsTime, IsOperation, operation, timed_items, untimed_items, op_items, edge_item, flow_item, certificate_items, block_items}
use Rattle.ix_cert.specs.Steps.{MayFollow, MayStand, MayBeOp, MayBeEdge, IsTimed, HasMode, IsBehind, last_edge, as_list, begun, with_op, with_edge, with_cost, with_flow, with_cycle, reading, after, run, start, AllFollow}
use Rattle.ix_cert.proofs.Lined.{EachItem}

-- ---- the items that were read
abbrev pub given : ReportBlock → Option Mode → Bool → List Item
given b None costed = map Cycle b.cycle
given b (Some mode) false = []
given b (Some mode) true = Cost b.cost ∷ map flow_item b.flow

abbrev pub begun_items : Bool → ReportBlock → Bool → List Item
begun_items weighted b costed = Behaviour b.name b.mode ∷ (op_items weighted b b.mode ++ (map edge_item b.problem.edges ++ given b b.mode costed))

abbrev pub so_far_at : ℕ → ℕ → List ReportBlock → Place → List Item
so_far_at version period blocks place.Title = []
so_far_at version period blocks place.Period = Title version ∷ []
so_far_at version period blocks place.Between = Title version ∷ Period period ∷ flat_map (block_items (is_weighted version)) blocks
so_far_at version period blocks (place.Inside b costed) =
    Title version ∷ Period period ∷ (flat_map (block_items (is_weighted version)) blocks ++ begun_items (is_weighted version) b costed)

abbrev pub so_far : Reading → List Item
so_far r = so_far_at r.version r.period r.blocks r.place

-- ---- in the range of their form
abbrev pub HasGiven : ReportBlock → Option Mode → Bool → Type 0
HasGiven b None costed = (costed ≡ false) × (b.times ≡ []) × (b.cost ≡ 0) × (b.flow ≡ []) × All (IsBoundInForm (length b.problem.ops)) b.cycle
HasGiven b (Some mode) false = (length b.times ≡ length b.problem.ops) × All (λ t. t ≤ 255) b.times × (b.cost ≡ 0) × (b.flow ≡ []) × (b.cycle ≡ [])
HasGiven b (Some mode) true = (length b.times ≡ length b.problem.ops) × All (λ t. t ≤ 255) b.times × (b.cost < 2 ^ 64) × All (IsPartInForm (length b.problem.ops)) b.flow × (b.cycle ≡ [])

pub record IsOpen (weighted : Bool) (period : ℕ) (b : ReportBlock) (costed : Bool) : Type 0 where
  pub named : IsName b.name
  pub few : length b.problem.ops ≤ 65536
  pub count : length b.kinds ≡ length b.problem.ops
  pub kinds : All IsKindName b.kinds
  pub nodes : All IsNodeInForm b.problem.ops
  pub weights : All (HasWeight weighted) b.problem.ops
  pub edges : All (IsEdgeInForm (length b.problem.ops)) b.problem.edges
  pub ordered : AllPairs IsBefore b.problem.edges
  pub period_is : b.problem.period ≡ period
  pub told : HasGiven b b.mode costed

pub record AreDone (version period : ℕ) (blocks : List ReportBlock) : Type 0 where
  pub some_version : 1 ≤ version
  pub most_version : version ≤ 2
  pub some_period : 1 ≤ period
  pub most_period : period ≤ 1000000
  pub blocks_are : All (IsBlockInForm (is_weighted version) period) blocks

abbrev pub IsSoundAt : ℕ → ℕ → List ReportBlock → Place → Type 0
IsSoundAt version period blocks place.Title = blocks ≡ []
IsSoundAt version period blocks place.Period = (1 ≤ version) × (version ≤ 2) × (blocks ≡ [])
IsSoundAt version period blocks place.Between = AreDone version period blocks
IsSoundAt version period blocks (place.Inside b costed) = AreDone version period blocks × IsOpen (is_weighted version) period b costed

abbrev pub IsSound : Reading → Type 0
IsSound r = IsSoundAt r.version r.period r.blocks r.place

-- one more item was read, and what was read is still sound
pub record Keeps (r : Reading) (x : Item) : Type 0 where
  pub sound : IsSound (after r x)
  pub items : so_far (after r x) ≡ so_far r ++ x ∷ []

-- ---- lists
map_push : {X : Type 0} (g : X → Item) (xs : List X) (x : X) → map g (xs ++ x ∷ []) ≡ map g xs ++ g x ∷ []
map_push g [] x = refl
map_push g (y ∷ xs) x = ap (λ l. g y ∷ l) (map_push g xs x)

module _ (version : ℕ) where
  abbrev weighted : Bool
  weighted = is_weighted version

  untimed_push : (k : ℕ) (kinds : List Line) (ops : List Node) (kind : Line) (node : Node) (n : ℕ) → length kinds ≡ length ops → n ≡ k + length ops
      → untimed_items weighted k (kinds ++ kind ∷ []) (ops ++ node ∷ []) ≡ untimed_items weighted k kinds ops ++ Op (operation weighted n kind node None) ∷ []
  untimed_push k [] [] kind node n c e = let same : n ≡ k = omega (arith, e) in rw same refl
  untimed_push k [] (o ∷ ops) kind node n c e = absurd (omega (arith, c))
  untimed_push k (w ∷ kinds) [] kind node n c e = absurd (omega (arith, c))
  untimed_push k (w ∷ kinds) (o ∷ ops) kind node n c e = ap (λ l. Op (operation weighted k w o None) ∷ l) (untimed_push (k + 1) kinds ops kind node n (omega (arith, c)) (omega (arith, e)))

  timed_push : (k : ℕ) (kinds : List Line) (ops : List Node) (times : List ℕ) (kind : Line) (node : Node) (time n : ℕ) → length kinds ≡ length ops → length times ≡ length ops → n ≡ k + length ops
      → timed_items weighted k (kinds ++ kind ∷ []) (ops ++ node ∷ []) (times ++ time ∷ []) ≡ timed_items weighted k kinds ops times ++ Op (operation weighted n kind node (Some time)) ∷ []
  timed_push k [] [] [] kind node time n c t e = let same : n ≡ k = omega (arith, e) in rw same refl
  timed_push k [] [] (u ∷ times) kind node time n c t e = absurd (omega (arith, t))
  timed_push k [] (o ∷ ops) times kind node time n c t e = absurd (omega (arith, c))
  timed_push k (w ∷ kinds) [] times kind node time n c t e = absurd (omega (arith, c))
  timed_push k (w ∷ kinds) (o ∷ ops) [] kind node time n c t e = absurd (omega (arith, t))
  timed_push k (w ∷ kinds) (o ∷ ops) (u ∷ times) kind node time n c t e =
      ap (λ l. Op (operation weighted k w o (Some u)) ∷ l) (timed_push (k + 1) kinds ops times kind node time n (omega (arith, c)) (omega (arith, t)) (omega (arith, e)))

  -- behind all that is there
  behind_ops : (os es gs : List Item) (x : Item) → es ≡ [] → gs ≡ [] → (os ++ x ∷ []) ++ (es ++ gs) ≡ (os ++ (es ++ gs)) ++ x ∷ []
  behind_ops os es gs x e g = rw (e, g, append-nil (os ++ x ∷ []), append-nil os) refl

  behind_edges : (os es gs : List Item) (x : Item) → gs ≡ [] → os ++ ((es ++ x ∷ []) ++ gs) ≡ (os ++ (es ++ gs)) ++ x ∷ []
  behind_edges os es gs x g = rw (g, append-nil (es ++ x ∷ []), append-nil es) (sym (append_assoc os es (x ∷ [])))

  behind_given : (os es gs : List Item) (x : Item) → os ++ (es ++ (gs ++ x ∷ [])) ≡ (os ++ (es ++ gs)) ++ x ∷ []
  behind_given os es gs x = sym (append_assoc os (es ++ gs) (x ∷ []) ∙ ap (λ l. os ++ l) (append_assoc es gs (x ∷ [])))

  -- one more item of a behaviour is one more item
  inside_more : (period : ℕ) (blocks : List ReportBlock) (x : Item) (old new : List Item) → new ≡ old ++ x ∷ []
      → Title version ∷ Period period ∷ (flat_map (block_items weighted) blocks ++ new) ≡ (Title version ∷ Period period ∷ (flat_map (block_items weighted) blocks ++ old)) ++ x ∷ []
  inside_more period blocks x old new e = ap (λ l. Title version ∷ Period period ∷ l) (ap (λ l. flat_map (block_items weighted) blocks ++ l) e ∙ sym (append_assoc (flat_map (block_items weighted) blocks) old (x ∷ [])))

  ops_same : (b c : ReportBlock) (mode : Option Mode) → b.kinds ≡ c.kinds → b.problem.ops ≡ c.problem.ops → b.times ≡ c.times → op_items weighted b mode ≡ op_items weighted c mode
  ops_same b c None k o t = rw (k, o) refl
  ops_same b c (Some mode) k o t = rw (k, o, t) refl

  no_edges_items : (edges : List (ℕ × ℕ)) → edges ≡ [] → map edge_item edges ≡ []
  no_edges_items edges e = ap (λ l. map edge_item l) e

  -- nothing of the certificate stands there
  no_given : (b : ReportBlock) (mode : Option Mode) (costed : Bool) → costed ≡ false → b.cycle ≡ [] → given b mode costed ≡ []
  no_given b None costed o c = ap (λ l. map Cycle l) c
  no_given b (Some mode) false o c = refl
  no_given b (Some mode) true o c = absurd cc

  -- ---- one case after another
  op_items_more : (b : ReportBlock) (costed : Bool) (op : Operation) (mode : Option Mode) (time : Option ℕ) → op.weighted ≡ weighted → length b.kinds ≡ length b.problem.ops → HasGiven b mode costed → op.place ≡ length b.problem.ops → IsTimed mode time → time ≡ op.time
      → op_items weighted (with_op b op) mode ≡ op_items weighted b mode ++ Op op ∷ []
  op_items_more b costed op None None w c g p t e =
      untimed_push 0 b.kinds b.problem.ops op.kind op.node op.place c (omega (arith, p)) ∙ ap (λ x. untimed_items weighted 0 b.kinds b.problem.ops ++ Op (operation weighted op.place op.kind op.node x) ∷ []) e
      ∙ ap (λ z. untimed_items weighted 0 b.kinds b.problem.ops ++ Op (operation z op.place op.kind op.node op.time) ∷ []) (sym w)
  op_items_more b costed op None (Some time) w c g p t e = absurd t
  op_items_more b costed op (Some mode) None w c g p t e = absurd t
  op_items_more b costed op (Some mode) (Some time) w c g p t e =
      ap (λ l. timed_items weighted 0 (b.kinds ++ op.kind ∷ []) (b.problem.ops ++ op.node ∷ []) (b.times ++ as_list l)) (sym e)
      ∙ timed_push 0 b.kinds b.problem.ops b.times op.kind op.node time op.place c (count_of b costed g) (omega (arith, p))
      ∙ ap (λ x. timed_items weighted 0 b.kinds b.problem.ops b.times ++ Op (operation weighted op.place op.kind op.node x) ∷ []) e
      ∙ ap (λ z. timed_items weighted 0 b.kinds b.problem.ops b.times ++ Op (operation z op.place op.kind op.node op.time) ∷ []) (sym w) where
        count_of : (b : ReportBlock) (costed : Bool) → HasGiven b (Some mode) costed → length b.times ≡ length b.problem.ops
        count_of b false g = g.0
        count_of b true g = g.0

  small_time : (o : Option ℕ) (time : ℕ) → Some time ≡ o → IsTime o → time ≤ 255
  small_time None time e w = absurd cc
  small_time (Some u) time e w = let same : time ≡ u = cc in omega (arith, same, w)

  given_op : (b : ReportBlock) (costed : Bool) (op : Operation) (mode : Option Mode) (time : Option ℕ) → costed ≡ false → b.cycle ≡ [] → IsTimed mode time → time ≡ op.time → IsOperation op → HasGiven b mode costed → HasGiven (with_op b op) mode costed
  given_op b costed op None None o n t e w g =
      (g.0, ap (λ l. l ++ as_list op.time) g.1 ∙ ap (λ x. as_list x) (sym e), g.2, g.3, subst (λ l. All (IsBoundInForm (length (b.problem.ops ++ op.node ∷ []))) l) (sym n) (All-nil (IsBoundInForm (length (b.problem.ops ++ op.node ∷ [])))))
  given_op b costed op None (Some time) o n t e w g = absurd t
  given_op b costed op (Some mode) None o n t e w g = absurd t
  given_op b true op (Some mode) (Some time) o n t e w g = absurd cc
  given_op b false op (Some mode) (Some time) o n t e w g =
      let small : time ≤ 255 = small_time op.time time e w.time in (
        ap (λ x. length (b.times ++ as_list x)) (sym e) ∙ length-append b.times (time ∷ []) ∙ ap (λ k. k + 1) g.0 ∙ sym (length-append b.problem.ops (op.node ∷ [])),
        subst (λ x. All (λ u. u ≤ 255) (b.times ++ as_list x)) e (All-push (λ u. u ≤ 255) b.times time g.1 small),
        g.2,
        g.3,
        g.4,
      )

  open_op : (period : ℕ) (b : ReportBlock) (costed : Bool) (op : Operation) → IsOpen weighted period b costed → IsOperation op → MayBeOp version b costed op → IsOpen weighted period (with_op b op) costed
  open_op period b costed op o w m = record {
    named = o.named;
    few = omega (arith, w.place, m.place, length-append b.problem.ops (op.node ∷ []));
    count = length-append b.kinds (op.kind ∷ []) ∙ ap (λ k. k + 1) o.count ∙ sym (length-append b.problem.ops (op.node ∷ []));
    kinds = All-push IsKindName b.kinds op.kind o.kinds w.kind;
    nodes = All-push IsNodeInForm b.problem.ops op.node o.nodes w.node;
    weights = All-push (HasWeight weighted) b.problem.ops op.node o.weights (subst (λ z. HasWeight z op.node) m.form w.weight);
    edges = subst (λ l. All (IsEdgeInForm (length (b.problem.ops ++ op.node ∷ []))) l) (sym m.no_edges) (All-nil (IsEdgeInForm (length (b.problem.ops ++ op.node ∷ []))));
    ordered = o.ordered;
    period_is = o.period_is;
    told = given_op b costed op b.mode op.time m.open_cost m.no_cycle m.timed refl w o.told;
  }

  op_more : (b : ReportBlock) (costed : Bool) (op : Operation) (period : ℕ) → IsOpen weighted period b costed → MayBeOp version b costed op → begun_items weighted (with_op b op) costed ≡ begun_items weighted b costed ++ Op op ∷ []
  op_more b costed op period o m = ap (λ l. Behaviour b.name b.mode ∷ l)
      (ap (λ l. l ++ (map edge_item b.problem.edges ++ given (with_op b op) b.mode costed)) (op_items_more b costed op b.mode op.time m.form o.count o.told m.place m.timed refl)
      ∙ ap (λ g. (op_items weighted b b.mode ++ Op op ∷ []) ++ (map edge_item b.problem.edges ++ g)) (no_given (with_op b op) b.mode costed m.open_cost m.no_cycle ∙ sym (no_given b b.mode costed m.open_cost m.no_cycle))
      ∙ behind_ops (op_items weighted b b.mode) (map edge_item b.problem.edges) (given b b.mode costed) (Op op) (no_edges_items b.problem.edges m.no_edges) (no_given b b.mode costed m.open_cost m.no_cycle))

  -- an edge behind the last is behind each
  before_before : (e f g : ℕ × ℕ) → IsBefore e f → IsBefore f g → IsBefore e g
  before_before e f g (inl a) (inl b) = inl (omega (arith, a, b))
  before_before e f g (inl a) (inr b) = inl (omega (arith, a, b.0))
  before_before e f g (inr a) (inl b) = inl (omega (arith, a.0, b))
  before_before e f g (inr a) (inr b) = inr (omega (arith, a.0, b.0), omega (arith, a.1, b.1))

  some_is : (e f : ℕ × ℕ) → Some e ≡ Some f → e ≡ f
  some_is e f h = cc

  behind_each : (edges : List (ℕ × ℕ)) (e : ℕ × ℕ) → AllPairs IsBefore edges → IsBehind (last_edge edges) e → (k : ℕ) (d : ℕ × ℕ) → k < length edges → IsBefore (get_or edges k d) e
  behind_each edges e a b k d l =
      let last = length edges - 1 in
      let there : length edges - 1 < length edges = omega (arith, l) in
      let found : last_edge edges ≡ Some (get_or edges (length edges - 1) d) = slice_get-get_or edges (length edges - 1) d there in
      let before : IsBefore (get_or edges (length edges - 1) d) e = subst (λ o. IsBehind o e) found b in
      elim (nat_split k (length edges - 1) l) [
        | inl h ↦ before_before (get_or edges k d) (get_or edges (length edges - 1) d) e (a k (length edges - 1) d h there) before
        | inr h ↦ subst (λ j. IsBefore (get_or edges j d) e) (sym h) before
      ] where
        nat_split : (k n : ℕ) → k < length edges → (k < length edges - 1) ⊎ (k ≡ length edges - 1)
        nat_split k n h = grind arith

  given_edge : (b : ReportBlock) (costed : Bool) (e : ℕ × ℕ) (mode : Option Mode) → HasGiven b mode costed → HasGiven (with_edge b e) mode costed
  given_edge b costed e None g = g
  given_edge b false e (Some mode) g = g
  given_edge b true e (Some mode) g = g

  open_edge : (period : ℕ) (b : ReportBlock) (costed : Bool) (e : ℕ × ℕ) → IsOpen weighted period b costed → MayBeEdge b costed e → IsOpen weighted period (with_edge b e) costed
  open_edge period b costed e o m = record {
    named = o.named;
    few = o.few;
    count = o.count;
    kinds = o.kinds;
    nodes = o.nodes;
    weights = o.weights;
    edges = All-push (IsEdgeInForm (length b.problem.ops)) b.problem.edges e o.edges (m.forward, m.there);
    ordered = all_pairs_push IsBefore b.problem.edges e o.ordered (behind_each b.problem.edges e o.ordered m.behind);
    period_is = o.period_is;
    told = given_edge b costed e b.mode o.told;
  }

  edge_more : (b : ReportBlock) (costed : Bool) (e : ℕ × ℕ) → MayBeEdge b costed e → begun_items weighted (with_edge b e) costed ≡ begun_items weighted b costed ++ edge_item e ∷ []
  edge_more b costed e m = ap (λ l. Behaviour b.name b.mode ∷ l)
      (ap (λ l. l ++ (map edge_item (b.problem.edges ++ e ∷ []) ++ given (with_edge b e) b.mode costed)) (ops_same (with_edge b e) b b.mode refl refl refl)
      ∙ ap (λ l. op_items weighted b b.mode ++ (l ++ given (with_edge b e) b.mode costed)) (map_push edge_item b.problem.edges e)
      ∙ ap (λ g. op_items weighted b b.mode ++ ((map edge_item b.problem.edges ++ edge_item e ∷ []) ++ g)) (no_given (with_edge b e) b.mode costed m.open_cost m.no_cycle ∙ sym (no_given b b.mode costed m.open_cost m.no_cycle))
      ∙ behind_edges (op_items weighted b b.mode) (map edge_item b.problem.edges) (given b b.mode costed) (edge_item e) (no_given b b.mode costed m.open_cost m.no_cycle))

  given_cost : (b : ReportBlock) (costed : Bool) (cost : ℕ) (mode : Option Mode) → costed ≡ false → HasMode mode → cost < 2 ^ 64 → HasGiven b mode costed → HasGiven (with_cost b cost) mode true
  given_cost b costed cost None z m h g = absurd m
  given_cost b true cost (Some mode) z m h g = absurd cc
  given_cost b false cost (Some mode) z m h g = (g.0, g.1, h, subst (λ l. All (IsPartInForm (length b.problem.ops)) l) (sym g.3) (All-nil (IsPartInForm (length b.problem.ops))), g.4)

  given_cost_items : (b : ReportBlock) (costed : Bool) (cost : ℕ) (mode : Option Mode) → costed ≡ false → HasMode mode → HasGiven b mode costed → given (with_cost b cost) mode true ≡ given b mode costed ++ Cost cost ∷ []
  given_cost_items b costed cost None z m g = absurd m
  given_cost_items b true cost (Some mode) z m g = absurd cc
  given_cost_items b false cost (Some mode) z m g = ap (λ l. Cost cost ∷ map flow_item l) g.3

  given_flow : (b : ReportBlock) (costed : Bool) (c : Bound × ℕ) (mode : Option Mode) → costed ≡ true → IsPartInForm (length b.problem.ops) c → HasGiven b mode costed → HasGiven (with_flow b c) mode costed
  given_flow b costed c None z p g = absurd (clash (sym z ∙ g.0)) where
    clash : true ≡ false → ⊥
    clash e = cc
  given_flow b false c (Some mode) z p g = absurd cc
  given_flow b true c (Some mode) z p g = (g.0, g.1, g.2, All-push (IsPartInForm (length b.problem.ops)) b.flow c g.3 p, g.4)

  given_flow_items : (b : ReportBlock) (costed : Bool) (c : Bound × ℕ) (mode : Option Mode) → costed ≡ true → HasGiven b mode costed → given (with_flow b c) mode costed ≡ given b mode costed ++ flow_item c ∷ []
  given_flow_items b costed c None z g = absurd (clash (sym z ∙ g.0)) where
    clash : true ≡ false → ⊥
    clash e = cc
  given_flow_items b false c (Some mode) z g = absurd cc
  given_flow_items b true c (Some mode) z g = ap (λ l. Cost b.cost ∷ l) (map_push flow_item b.flow c)

  given_cycle : (b : ReportBlock) (costed : Bool) (bound : Bound) (mode : Option Mode) → mode ≡ None → IsBoundInForm (length b.problem.ops) bound → HasGiven b mode costed → HasGiven (with_cycle b bound) mode costed
  given_cycle b costed bound None z p g = (g.0, g.1, g.2, g.3, All-push (IsBoundInForm (length b.problem.ops)) b.cycle bound g.4 p)
  given_cycle b costed bound (Some mode) z p g = absurd cc

  given_cycle_items : (b : ReportBlock) (costed : Bool) (bound : Bound) (mode : Option Mode) → mode ≡ None → given (with_cycle b bound) mode costed ≡ given b mode costed ++ Cycle bound ∷ []
  given_cycle_items b costed bound None z = map_push Cycle b.cycle bound
  given_cycle_items b costed bound (Some mode) z = absurd cc

  -- with more of the certificate
  open_with : (period : ℕ) (b c : ReportBlock) (costed also : Bool) → b.name ≡ c.name → b.kinds ≡ c.kinds → b.problem ≡ c.problem → IsOpen weighted period b costed → HasGiven c c.mode also → IsOpen weighted period c also
  open_with period b c costed also n k p o g = record {
    named = subst IsName n o.named;
    few = subst (λ q. length q.ops ≤ 65536) p o.few;
    count = ap length (sym k) ∙ o.count ∙ ap (λ q. length q.ops) p;
    kinds = subst (All IsKindName) k o.kinds;
    nodes = subst (λ q. All IsNodeInForm q.ops) p o.nodes;
    weights = subst (λ q. All (HasWeight weighted) q.ops) p o.weights;
    edges = subst (λ q. All (IsEdgeInForm (length q.ops)) q.edges) p o.edges;
    ordered = subst (λ q. AllPairs IsBefore q.edges) p o.ordered;
    period_is = ap (λ q. q.period) (sym p) ∙ o.period_is;
    told = g;
  }

  pub certificate_more : (b c : ReportBlock) (costed also : Bool) (x : Item) → c.name ≡ b.name → c.mode ≡ b.mode → c.kinds ≡ b.kinds → c.problem ≡ b.problem → c.times ≡ b.times → given c c.mode also ≡ given b b.mode costed ++ x ∷ []
      → begun_items weighted c also ≡ begun_items weighted b costed ++ x ∷ []
  certificate_more b c costed also x n m k p t g =
      ap (λ l. Behaviour l c.mode ∷ (op_items weighted c c.mode ++ (map edge_item c.problem.edges ++ given c c.mode also))) n
      ∙ ap (λ l. Behaviour b.name c.mode ∷ (op_items weighted c c.mode ++ (map edge_item c.problem.edges ++ l))) g
      ∙ ap (λ l. Behaviour b.name l ∷ (op_items weighted c l ++ (map edge_item c.problem.edges ++ (given b b.mode costed ++ x ∷ [])))) m
      ∙ ap (λ l. Behaviour b.name b.mode ∷ (l ++ (map edge_item c.problem.edges ++ (given b b.mode costed ++ x ∷ [])))) (ops_same c b b.mode k (ap (λ q. q.ops) p) t)
      ∙ ap (λ q. Behaviour b.name b.mode ∷ (op_items weighted b b.mode ++ (map edge_item q.edges ++ (given b b.mode costed ++ x ∷ [])))) p
      ∙ ap (λ l. Behaviour b.name b.mode ∷ l) (behind_given (op_items weighted b b.mode) (map edge_item b.problem.edges) (given b b.mode costed) x)

  -- a behaviour that may end is in the range of its form
  end_certificate : (b : ReportBlock) (costed : Bool) (mode : Option Mode) → (costed ≡ false → b.cycle ≢ []) → HasGiven b mode costed → HasCertificate b mode
  end_certificate b costed None m g = (g.1, g.2, g.3, g.4, m g.0)
  end_certificate b false (Some mode) m g = absurd (m refl g.4)
  end_certificate b true (Some mode) m g = (g.0, g.1, g.2, g.3, g.4)

  end_items : (b : ReportBlock) (costed : Bool) (mode : Option Mode) → (costed ≡ false → b.cycle ≢ []) → HasGiven b mode costed → given b mode costed ≡ certificate_items b mode
  end_items b costed None m g = refl
  end_items b false (Some mode) m g = absurd (m refl g.4)
  end_items b true (Some mode) m g = refl

  end_open : (period : ℕ) (b : ReportBlock) (costed : Bool) → (costed ≡ false → b.cycle ≢ []) → IsOpen weighted period b costed → IsBlockInForm weighted period b
  end_open period b costed m o = record {
    named = o.named;
    few = o.few;
    count = o.count;
    kinds = o.kinds;
    nodes = o.nodes;
    weights = o.weights;
    edges = o.edges;
    ordered = o.ordered;
    period_is = o.period_is;
    certificate = end_certificate b costed b.mode m o.told;
  }

  end_more : (period : ℕ) (blocks : List ReportBlock) (b : ReportBlock) (costed : Bool) → (costed ≡ false → b.cycle ≢ []) → IsOpen weighted period b costed
      → flat_map (block_items weighted) (blocks ++ b ∷ []) ≡ (flat_map (block_items weighted) blocks ++ begun_items weighted b costed) ++ End ∷ []
  end_more period blocks b costed m o =
      flat_map-append (block_items weighted) blocks (b ∷ [])
      ∙ ap (λ l. flat_map (block_items weighted) blocks ++ l) (append-nil (block_items weighted b)
      ∙ ap (λ l. Behaviour b.name b.mode ∷ l) (behind_given (op_items weighted b b.mode) (map edge_item b.problem.edges) (certificate_items b b.mode) End)
      ∙ ap (λ l. (Behaviour b.name b.mode ∷ (op_items weighted b b.mode ++ (map edge_item b.problem.edges ++ l))) ++ End ∷ []) (sym (end_items b costed b.mode m o.told)))
      ∙ sym (append_assoc (flat_map (block_items weighted) blocks) (begun_items weighted b costed) (End ∷ []))

  begun_given : (name : Line) (mode : Option Mode) (period : ℕ) → HasGiven (begun name mode period) mode false
  begun_given name None period = (refl, refl, refl, refl, All-nil (IsBoundInForm 0))
  begun_given name (Some mode) period = (refl, All-nil (λ t. t ≤ 255), refl, refl, refl)

  begun_open : (name : Line) (mode : Option Mode) (period : ℕ) → IsName name → IsOpen weighted period (begun name mode period) false
  begun_open name mode period n = record {
    named = n;
    few = omega arith;
    count = refl;
    kinds = All-nil IsKindName;
    nodes = All-nil IsNodeInForm;
    weights = All-nil (HasWeight weighted);
    edges = All-nil (IsEdgeInForm 0);
    ordered = λ i j d h l. absurd (omega (arith, l));
    period_is = refl;
    told = begun_given name mode period;
  }

  begun_none : (name : Line) (mode : Option Mode) (period : ℕ) → op_items weighted (begun name mode period) mode ++ ([] ++ given (begun name mode period) mode false) ≡ []
  begun_none name None period = refl
  begun_none name (Some mode) period = refl

  nothing_first : (x : Item) (blocks : List ReportBlock) → blocks ≡ [] → Title version ∷ x ∷ flat_map (block_items weighted) blocks ≡ (Title version ∷ []) ++ x ∷ []
  nothing_first x blocks e = rw e refl

  keep_inside : (period : ℕ) (blocks : List ReportBlock) (b : ReportBlock) (costed : Bool) (x : Item) → AreDone version period blocks → IsOpen weighted period b costed → IsItem x → MayStand version b costed x → Keeps (reading version period blocks (place.Inside b costed)) x
  keep_inside period blocks b costed (Title given) d o w m = absurd m
  keep_inside period blocks b costed (Period p) d o w m = absurd m
  keep_inside period blocks b costed (Behaviour name mode) d o w m = absurd m
  keep_inside period blocks b costed (Op op) d o w m = record {
    sound = (d, open_op period b costed op o w m);
    items = inside_more period blocks (Op op) (begun_items weighted b costed) (begun_items weighted (with_op b op) costed) (op_more b costed op period o m);
  }
  keep_inside period blocks b costed (Edge i j) d o w m = record {
    sound = (d, open_edge period b costed (i, j) o m);
    items = inside_more period blocks (Edge i j) (begun_items weighted b costed) (begun_items weighted (with_edge b (i, j)) costed) (edge_more b costed (i, j) m);
  }
  keep_inside period blocks b costed (Cost cost) d o w m = record {
    sound = (d, open_with period b (with_cost b cost) costed true refl refl refl o (given_cost b costed cost b.mode m.0 m.1 (below_64 cost w) o.told));
    items = inside_more period blocks (Cost cost) (begun_items weighted b costed) (begun_items weighted (with_cost b cost) true) (certificate_more b (with_cost b cost) costed true (Cost cost) refl refl refl refl refl (given_cost_items b costed cost b.mode m.0 m.1 o.told));
  } where
    below_64 : (n : ℕ) → n ≤ 18446744073709551615 → n < 2 ^ 64
    below_64 n h = omega (arith, h, lit) where
      lit : 18446744073709551615 < 2 ^ 64
      lit = lit< tt
  keep_inside period blocks b costed (Flow amount bound) d o w m = record {
    sound = (d, open_with period b (with_flow b (bound, amount)) costed costed refl refl refl o (given_flow b costed (bound, amount) b.mode m.0 (record { bound = m.1; positive = w.0; small = below_64 amount w.1 }) o.told));
    items = inside_more period blocks (Flow amount bound) (begun_items weighted b costed) (begun_items weighted (with_flow b (bound, amount)) costed) (certificate_more b (with_flow b (bound, amount)) costed costed (Flow amount bound) refl refl refl refl refl (given_flow_items b costed (bound, amount) b.mode m.0 o.told));
  } where
    below_64 : (n : ℕ) → n ≤ 18446744073709551615 → n < 2 ^ 64
    below_64 n h = omega (arith, h, lit) where
      lit : 18446744073709551615 < 2 ^ 64
      lit = lit< tt
  keep_inside period blocks b costed (Cycle bound) d o w m = record {
    sound = (d, open_with period b (with_cycle b bound) costed costed refl refl refl o (given_cycle b costed bound b.mode m.0 m.1 o.told));
    items = inside_more period blocks (Cycle bound) (begun_items weighted b costed) (begun_items weighted (with_cycle b bound) costed) (certificate_more b (with_cycle b bound) costed costed (Cycle bound) refl refl refl refl refl (given_cycle_items b costed bound b.mode m.0));
  }
  keep_inside period blocks b costed End d o w m = record {
    sound = record { some_version = d.some_version; most_version = d.most_version; some_period = d.some_period; most_period = d.most_period; blocks_are = All-push (IsBlockInForm weighted period) blocks b d.blocks_are (end_open period b costed m o) };
    items = ap (λ l. Title version ∷ Period period ∷ l) (end_more period blocks b costed m o);
  }

  keep_at : (period : ℕ) (blocks : List ReportBlock) (at : Place) (x : Item) → IsSoundAt version period blocks at → IsItem x → MayFollow version at x → Keeps (reading version period blocks at) x
  keep_at period blocks place.Title (Title given) s w m = record { sound = (w.0, w.1, s); items = refl }
  keep_at period blocks place.Title (Period p) s w m = absurd m
  keep_at period blocks place.Title (Behaviour name mode) s w m = absurd m
  keep_at period blocks place.Title (Op op) s w m = absurd m
  keep_at period blocks place.Title (Edge i j) s w m = absurd m
  keep_at period blocks place.Title (Cost cost) s w m = absurd m
  keep_at period blocks place.Title (Flow amount bound) s w m = absurd m
  keep_at period blocks place.Title (Cycle bound) s w m = absurd m
  keep_at period blocks place.Title End s w m = absurd m
  keep_at period blocks place.Period (Title given) s w m = absurd m
  keep_at period blocks place.Period (Period p) s w m = record {
    sound = record { some_version = s.0; most_version = s.1; some_period = w.0; most_period = w.1; blocks_are = subst (All (IsBlockInForm weighted p)) (sym s.2) (All-nil (IsBlockInForm weighted p)) };
    items = nothing_first (Period p) blocks s.2;
  }
  keep_at period blocks place.Period (Behaviour name mode) s w m = absurd m
  keep_at period blocks place.Period (Op op) s w m = absurd m
  keep_at period blocks place.Period (Edge i j) s w m = absurd m
  keep_at period blocks place.Period (Cost cost) s w m = absurd m
  keep_at period blocks place.Period (Flow amount bound) s w m = absurd m
  keep_at period blocks place.Period (Cycle bound) s w m = absurd m
  keep_at period blocks place.Period End s w m = absurd m
  keep_at period blocks place.Between (Title given) s w m = absurd m
  keep_at period blocks place.Between (Period p) s w m = absurd m
  keep_at period blocks place.Between (Behaviour name mode) s w m = record {
    sound = (s, begun_open name mode period w);
    items = ap (λ l. Title version ∷ Period period ∷ (flat_map (block_items weighted) blocks ++ Behaviour name mode ∷ l)) (begun_none name mode period);
  }
  keep_at period blocks place.Between (Op op) s w m = absurd m
  keep_at period blocks place.Between (Edge i j) s w m = absurd m
  keep_at period blocks place.Between (Cost cost) s w m = absurd m
  keep_at period blocks place.Between (Flow amount bound) s w m = absurd m
  keep_at period blocks place.Between (Cycle bound) s w m = absurd m
  keep_at period blocks place.Between End s w m = absurd m
  keep_at period blocks (place.Inside b costed) x s w m = keep_inside period blocks b costed x s.0 s.1 w m

-- the same over many items
pub record KeepsAll (r : Reading) (xs : List Item) : Type 0 where
  pub sound : IsSound (run r xs)
  pub items : so_far (run r xs) ≡ so_far r ++ xs

pub keep_all : (r : Reading) (xs : List Item) → IsSound r → EachItem xs → AllFollow r xs → KeepsAll r xs
keep_all r [] s w m = record { sound = s; items = sym (append-nil (so_far r)) }
keep_all r (x ∷ xs) s w m =
    let one = keep_at r.version r.period r.blocks r.place x s w.0 m.0 in
    let rest = keep_all (after r x) xs one.sound w.1 m.1 in
    record { sound = rest.sound; items = rest.items ∙ ap (λ l. l ++ xs) one.items ∙ append_assoc (so_far r) (x ∷ []) xs }

pub start_sound : IsSound start
start_sound = refl
