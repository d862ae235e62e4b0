use Rattle.std.proofs.Common.{◌≡◌, ◌∙◌, ap, List, ℕ, Some, string_bytes}
use Rattle.std.proofs.lemmas.Map.Text.{btree_map_updates_text}
use Rattle.std.specs.BTreeMap.{get_by_text}
use Rattle.std.specs.Map.{update}
use Rattle.std.specs.Str.{bytes_eq}
use Rattle.ix_vform.specs.Kept.{first_of}
use Rattle.ix_vform.proofs.role.declare.Goals as goal

pub returns-in-Ok-insert : goal.returns-in-Ok-insert
returns-in-Ok-insert c = λ n.
    let roles = c.args.roles.now in
    let name = c.args.name.now in
    let old : c.copied-old.result ≡ get_by_text roles name = c.copied-old.ensures ∙ c.get.ensures.value in
    let first : c.first_of.result ≡ first_of (get_by_text roles name) c.args.role = c.first_of.ensures ∙ ap (λ z. first_of z c.args.role) old in
    btree_map_updates_text (string_bytes c.in-Ok.key) roles c.insert.new.self _ c.in-Ok-insert.ensures.updates n
    ∙ ap (λ (k : List ℕ). update bytes_eq (get_by_text roles) k (Some c.first_of.result) n) c.in-Ok.ensures.ok
    ∙ ap (λ r. update bytes_eq (get_by_text roles) name (Some r) n) first
