-- A report's items may stand one after the other, and what was read of them is the report.
use Rattle.std.proofs.Common.{◌≡◌, ◌≢◌, ℕ, suc, ◌+◌, ◌-◌, List, [], ◌∷◌, ◌++◌, length, refl, sym, ap, ◌∙◌, subst, arith, lit<, append_assoc, length-append, Option, Some, None, Bool, true, false}
use Rattle.std.specs.Prelude.{map, All, AllPairs, slice_get}
use Rattle.std.specs.List.{flat_map}
use Rattle.std.proofs.lemmas.List.{append-nil}
use Rattle.std.proofs.lemmas.List.Elements.{All-head, All-tail}
use Rattle.ix_graph.specs.declared.graph.Mode.{Mode}
use Rattle.ix_sheet.specs.declared.problem.Node.{Node}
use Rattle.ix_sheet.specs.declared.problem.Bound.{Bound}
use Rattle.ix_cert.specs.declared.item.Item.{Item}
use Rattle.ix_cert.specs.declared.item.Item.TheVariants.{Cycle, End}
use Rattle.ix_cert.specs.declared.report.Report.{Report}
use Rattle.ix_cert.specs.declared.report.ReportBlock.{ReportBlock}
use Rattle.ix_cert.specs.declared.state.Place.TheVariants as place
use Rattle.ix_cert.specs.declared.state.Reading.{Reading}
use Rattle.ix_cert.specs.Layout.{Line, is_weighted, IsInForm, IsBlockInForm, IsBoundInForm, IsPartInForm, IsEdgeInForm, IsBefore, HasCertificate}
use Rattle.ix_cert.specs.Items.{timed_items, untimed_items, edge_item, flow_item, block_items, report_items}
use Rattle.ix_cert.specs.Steps.{MayFollow, IsBehind, last_edge, block_of, reading, after, run, start, AllFollow}

-- the items may follow from here, and lead there
pub record Leads (from : Reading) (items : List Item) (to : Reading) : Type 0 where
  pub follow : AllFollow from items
  pub comes : run from items ≡ to

pub follow_join : (from : Reading) (xs ys : List Item) → AllFollow from xs → AllFollow (run from xs) ys → AllFollow from (xs ++ ys)
follow_join from [] ys a b = b
follow_join from (x ∷ xs) ys a b = (a.0, follow_join (after from x) xs ys a.1 b)

pub run_join : (from : Reading) (xs ys : List Item) → run from (xs ++ ys) ≡ run (run from xs) ys
run_join from [] ys = refl
run_join from (x ∷ xs) ys = run_join (after from x) xs ys

pub leads_join : (from mid to : Reading) (xs ys : List Item) → Leads from xs mid → Leads mid ys to → Leads from (xs ++ ys) to
leads_join from mid to xs ys a b = record {
  follow = follow_join from xs ys a.follow (subst (λ m. AllFollow m ys) (sym a.comes) b.follow);
  comes = run_join from xs ys ∙ ap (λ m. run m ys) a.comes ∙ b.comes;
}

pub leads_cons : (from to : Reading) (x : Item) (xs : List Item) → MayFollow from.version from.place x → Leads (after from x) xs to → Leads from (x ∷ xs) to
leads_cons from to x xs m l = record { follow = (m, l.follow); comes = l.comes }

leads_none : (from to : Reading) → from ≡ to → Leads from [] to
leads_none from to e = record { follow = tt; comes = e }

-- ---- inside of a behaviour
module _ (version : ℕ) where
  abbrev in_block : ℕ → List ReportBlock → Bool → ReportBlock → Reading
  in_block period blocks costed b = reading version period blocks (place.Inside b costed)

  next_place : (k : ℕ) (ops : List Node) (node : Node) → k ≡ length ops → k + 1 ≡ length (ops ++ node ∷ [])
  next_place k ops node e = omega (arith, e, length-append ops (node ∷ []))

  push_more : {X : Type 0} (xs : List X) (x : X) (ys : List X) → (xs ++ x ∷ []) ++ ys ≡ xs ++ x ∷ ys
  push_more xs x ys = append_assoc xs (x ∷ []) ys

  untimed_leads : (period : ℕ) (blocks : List ReportBlock) (name : Line) (kinds : List Line) (ops : List Node) (k : ℕ) (more : List Line) (nodes : List Node) → k ≡ length ops → length more ≡ length nodes
      → Leads (in_block period blocks false (block_of name None period kinds ops [] [] 0 [] [])) (untimed_items (is_weighted version) k more nodes) (in_block period blocks false (block_of name None period (kinds ++ more) (ops ++ nodes) [] [] 0 [] []))
  untimed_leads period blocks name kinds ops k [] [] e l = leads_none _ _ (rw (append-nil kinds, append-nil ops) refl)
  untimed_leads period blocks name kinds ops k [] (node ∷ nodes) e l = absurd (omega (arith, l))
  untimed_leads period blocks name kinds ops k (kind ∷ more) [] e l = absurd (omega (arith, l))
  untimed_leads period blocks name kinds ops k (kind ∷ more) (node ∷ nodes) e l =
      leads_cons _ _ _ _ (record { form = refl; open_cost = refl; place = e; no_edges = refl; no_cycle = refl; timed = tt })
      (subst (λ to. Leads (in_block period blocks false (block_of name None period (kinds ++ kind ∷ []) (ops ++ node ∷ []) [] [] 0 [] [])) (untimed_items (is_weighted version) (k + 1) more nodes) to)
      (rw (push_more kinds kind more, push_more ops node nodes) refl)
      (untimed_leads period blocks name (kinds ++ kind ∷ []) (ops ++ node ∷ []) (k + 1) more nodes (next_place k ops node e) (omega (arith, l))))

  timed_leads : (period : ℕ) (blocks : List ReportBlock) (name : Line) (mode : Mode) (kinds : List Line) (ops : List Node) (times : List ℕ) (k : ℕ) (more : List Line) (nodes : List Node) (later : List ℕ)
      → k ≡ length ops → length more ≡ length nodes → length later ≡ length nodes
      → Leads (in_block period blocks false (block_of name (Some mode) period kinds ops [] times 0 [] [])) (timed_items (is_weighted version) k more nodes later) (in_block period blocks false (block_of name (Some mode) period (kinds ++ more) (ops ++ nodes) [] (times ++ later) 0 [] []))
  timed_leads period blocks name mode kinds ops times k [] [] [] e l t = leads_none _ _ (rw (append-nil kinds, append-nil ops, append-nil times) refl)
  timed_leads period blocks name mode kinds ops times k [] [] (time ∷ later) e l t = absurd (omega (arith, t))
  timed_leads period blocks name mode kinds ops times k [] (node ∷ nodes) later e l t = absurd (omega (arith, l))
  timed_leads period blocks name mode kinds ops times k (kind ∷ more) [] later e l t = absurd (omega (arith, l))
  timed_leads period blocks name mode kinds ops times k (kind ∷ more) (node ∷ nodes) [] e l t = absurd (omega (arith, t))
  timed_leads period blocks name mode kinds ops times k (kind ∷ more) (node ∷ nodes) (time ∷ later) e l t =
      leads_cons _ _ _ _ (record { form = refl; open_cost = refl; place = e; no_edges = refl; no_cycle = refl; timed = tt })
      (subst (λ to. Leads (in_block period blocks false (block_of name (Some mode) period (kinds ++ kind ∷ []) (ops ++ node ∷ []) [] (times ++ time ∷ []) 0 [] [])) (timed_items (is_weighted version) (k + 1) more nodes later) to)
      (rw (push_more kinds kind more, push_more ops node nodes, push_more times time later) refl)
      (timed_leads period blocks name mode (kinds ++ kind ∷ []) (ops ++ node ∷ []) (times ++ time ∷ []) (k + 1) more nodes later (next_place k ops node e) (omega (arith, l)) (omega (arith, t))))

  -- the last edge before one is before it
  pairs_tail : {X : Type 0} (R : X → X → Type 0) (x : X) (xs : List X) → AllPairs R (x ∷ xs) → AllPairs R xs
  pairs_tail R x xs a = λ i j d h l. a (suc i) (suc j) d (omega (arith, h)) (omega (arith, l))

  last_more : (f g : ℕ × ℕ) (done : List (ℕ × ℕ)) → last_edge (f ∷ g ∷ done) ≡ last_edge (g ∷ done)
  last_more f g done =
      let a : length (f ∷ g ∷ done) - 1 ≡ suc (length done) = omega arith in
      let b : length (g ∷ done) - 1 ≡ length done = omega arith in
      ap (λ k. slice_get (f ∷ g ∷ done) k) a ∙ ap (λ k. slice_get (g ∷ done) k) (sym b)

  last_before : (done : List (ℕ × ℕ)) (e : ℕ × ℕ) (left : List (ℕ × ℕ)) → AllPairs IsBefore (done ++ e ∷ left) → IsBehind (last_edge done) e
  last_before [] e left a = tt
  last_before (f ∷ []) e left a = a 0 1 (0, 0) (lit< tt) (omega arith)
  last_before (f ∷ g ∷ done) e left a = subst (λ l. IsBehind l e) (sym (last_more f g done)) (last_before (g ∷ done) e left (pairs_tail IsBefore f (g ∷ done ++ e ∷ left) a))

  edges_lead : (period : ℕ) (blocks : List ReportBlock) (name : Line) (mode : Option Mode) (kinds : List Line) (ops : List Node) (times : List ℕ) (done left : List (ℕ × ℕ))
      → All (IsEdgeInForm (length ops)) left → AllPairs IsBefore (done ++ left)
      → Leads (in_block period blocks false (block_of name mode period kinds ops done times 0 [] [])) (map edge_item left) (in_block period blocks false (block_of name mode period kinds ops (done ++ left) times 0 [] []))
  edges_lead period blocks name mode kinds ops times done [] a p = leads_none _ _ (rw (append-nil done) refl)
  edges_lead period blocks name mode kinds ops times done (e ∷ left) a p =
      let here = All-head (IsEdgeInForm (length ops)) e left a in
      leads_cons _ _ _ _ (record { open_cost = refl; no_cycle = refl; forward = here.0; there = here.1; behind = last_before done e left p })
      (subst (λ to. Leads (in_block period blocks false (block_of name mode period kinds ops (done ++ e ∷ []) times 0 [] [])) (map edge_item left) to)
      (rw (push_more done e left) refl)
      (edges_lead period blocks name mode kinds ops times (done ++ e ∷ []) left (All-tail (IsEdgeInForm (length ops)) e left a) (subst (λ l. AllPairs IsBefore l) (sym (push_more done e left)) p)))

  flow_leads : (period : ℕ) (blocks : List ReportBlock) (name : Line) (mode : Option Mode) (kinds : List Line) (ops : List Node) (edges : List (ℕ × ℕ)) (times : List ℕ) (cost : ℕ) (done left : List (Bound × ℕ))
      → All (IsPartInForm (length ops)) left
      → Leads (in_block period blocks true (block_of name mode period kinds ops edges times cost done [])) (map flow_item left) (in_block period blocks true (block_of name mode period kinds ops edges times cost (done ++ left) []))
  flow_leads period blocks name mode kinds ops edges times cost done [] a = leads_none _ _ (rw (append-nil done) refl)
  flow_leads period blocks name mode kinds ops edges times cost done (c ∷ left) a =
      leads_cons _ _ _ _ (refl, (All-head (IsPartInForm (length ops)) c left a).bound)
      (subst (λ to. Leads (in_block period blocks true (block_of name mode period kinds ops edges times cost (done ++ c ∷ []) [])) (map flow_item left) to)
      (rw (push_more done c left) refl)
      (flow_leads period blocks name mode kinds ops edges times cost (done ++ c ∷ []) left (All-tail (IsPartInForm (length ops)) c left a)))

  cycle_leads : (period : ℕ) (blocks : List ReportBlock) (name : Line) (kinds : List Line) (ops : List Node) (edges : List (ℕ × ℕ)) (done left : List Bound)
      → All (IsBoundInForm (length ops)) left
      → Leads (in_block period blocks false (block_of name None period kinds ops edges [] 0 [] done)) (map Cycle left) (in_block period blocks false (block_of name None period kinds ops edges [] 0 [] (done ++ left)))
  cycle_leads period blocks name kinds ops edges done [] a = leads_none _ _ (rw (append-nil done) refl)
  cycle_leads period blocks name kinds ops edges done (bound ∷ left) a =
      leads_cons _ _ _ _ (refl, All-head (IsBoundInForm (length ops)) bound left a)
      (subst (λ to. Leads (in_block period blocks false (block_of name None period kinds ops edges [] 0 [] (done ++ bound ∷ []))) (map Cycle left) to)
      (rw (push_more done bound left) refl)
      (cycle_leads period blocks name kinds ops edges (done ++ bound ∷ []) left (All-tail (IsBoundInForm (length ops)) bound left a)))

  end_leads : (period : ℕ) (blocks : List ReportBlock) (costed : Bool) (b : ReportBlock) → (costed ≡ false → b.cycle ≢ []) → Leads (in_block period blocks costed b) (End ∷ []) (reading version period (blocks ++ b ∷ []) place.Between)
  end_leads period blocks costed b m = leads_cons _ _ _ _ m (leads_none _ _ refl)

  -- with its parts spelled out
  part_leads : (period : ℕ) (blocks : List ReportBlock) (name : Line) (mode : Option Mode) (kinds : List Line) (ops : List Node) (edges : List (ℕ × ℕ)) (times : List ℕ) (cost : ℕ) (flow : List (Bound × ℕ)) (cycle : List Bound)
      → length kinds ≡ length ops → All (IsEdgeInForm (length ops)) edges → AllPairs IsBefore edges → HasCertificate (block_of name mode period kinds ops edges times cost flow cycle) mode
      → Leads (reading version period blocks place.Between) (block_items (is_weighted version) (block_of name mode period kinds ops edges times cost flow cycle)) (reading version period (blocks ++ block_of name mode period kinds ops edges times cost flow cycle ∷ []) place.Between)
  part_leads period blocks name None kinds ops edges times cost flow cycle c e o h =
      rw (h.0, h.1, h.2) (leads_cons _ _ _ _ tt
      (leads_join _ _ _ (untimed_items (is_weighted version) 0 kinds ops) _ (untimed_leads period blocks name [] [] 0 kinds ops refl c)
      (leads_join _ _ _ (map edge_item edges) _ (edges_lead period blocks name None kinds ops [] [] edges e o)
      (leads_join _ _ _ (map Cycle cycle) _ (cycle_leads period blocks name kinds ops edges [] cycle h.3)
      (end_leads period blocks false _ (λ _. h.4))))))
  part_leads period blocks name (Some mode) kinds ops edges times cost flow cycle c e o h =
      rw h.4 (leads_cons _ _ _ _ tt
      (leads_join _ _ _ (timed_items (is_weighted version) 0 kinds ops times) _ (timed_leads period blocks name mode [] [] [] 0 kinds ops times refl c h.0)
      (leads_join _ _ _ (map edge_item edges) _ (edges_lead period blocks name (Some mode) kinds ops times [] edges e o)
      (leads_cons _ _ _ _ (refl, tt)
      (leads_join _ _ _ (map flow_item flow) _ (flow_leads period blocks name (Some mode) kinds ops edges times cost [] flow h.3)
      (end_leads period blocks true _ (λ z. absurd cc)))))))

  pub block_leads : (period : ℕ) (blocks : List ReportBlock) (b : ReportBlock) → IsBlockInForm (is_weighted version) period b → Leads (reading version period blocks place.Between) (block_items (is_weighted version) b) (reading version period (blocks ++ b ∷ []) place.Between)
  block_leads period blocks b f =
      subst (λ q. Leads (reading version q blocks place.Between) (block_items (is_weighted version) b) (reading version q (blocks ++ b ∷ []) place.Between)) f.period_is
      (part_leads b.problem.period blocks b.name b.mode b.kinds b.problem.ops b.problem.edges b.times b.cost b.flow b.cycle f.count f.edges f.ordered f.certificate)

  blocks_lead : (period : ℕ) (done left : List ReportBlock) → All (IsBlockInForm (is_weighted version) period) left → Leads (reading version period done place.Between) (flat_map (block_items (is_weighted version)) left) (reading version period (done ++ left) place.Between)
  blocks_lead period done [] a = leads_none _ _ (rw (append-nil done) refl)
  blocks_lead period done (b ∷ left) a =
      leads_join _ _ _ (block_items (is_weighted version) b) (flat_map (block_items (is_weighted version)) left) (block_leads period done b (All-head (IsBlockInForm (is_weighted version) period) b left a))
      (subst (λ to. Leads (reading version period (done ++ b ∷ []) place.Between) (flat_map (block_items (is_weighted version)) left) to) (rw (push_more done b left) refl)
      (blocks_lead period (done ++ b ∷ []) left (All-tail (IsBlockInForm (is_weighted version) period) b left a)))

-- the items of a report in the range of its form lead to it
pub report_leads : (r : Report) → IsInForm r → Leads start (report_items r) (reading r.version r.period r.blocks place.Between)
report_leads r f = leads_cons _ _ _ _ tt (leads_cons _ _ _ _ tt (blocks_lead r.version r.period [] r.blocks f.blocks))
