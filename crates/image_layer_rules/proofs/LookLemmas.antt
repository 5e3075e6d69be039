-- What a key leads to from a cell is what it leads to from the child under its byte.
use Rattle.std.proofs.Common.{◌≡◌, ℕ, zero, suc, ◌+◌, ◌<◌, ◌≤◌, List, Option, sym, ap, ◌∙◌, arith}
use Rattle.pm_words.specs.declared.layout.Layout.{Layout}
use Rattle.radix_nodes.specs.Keys.{key_bytes}
use Rattle.tree_law.specs.Trees.{Reference, Cell, find, node_at, way_length, byte_at}
use Rattle.tree_law.specs.Words.{reference_of}
use Rattle.image_layer_rules.specs.Faults.{image_tree}
use Rattle.image_layer_rules.specs.Covers.{LeadsTo}

pub leads_on : (l : Layout) (image : List ℕ) (x : ℕ) (s : Reference) → s ≡ Cell x → (byte child least next key : ℕ) (target : Option ℕ) → byte ≡ byte_at ((image_tree l image).depth x) key → (image_tree l image).child x byte ≡ reference_of child → least < next → next ≤ key_bytes → LeadsTo l image child next key target
    → (fuel : ℕ) → way_length ≤ fuel + least → node_at (image_tree l image) (find (image_tree l image) fuel s key) ≡ target
leads_on l image x s is byte child least next key target byte_is same later small leads zero enough = absurd (omega arith)
leads_on l image x s is byte child least next key target byte_is same later small leads (suc fuel) enough =
    let t = image_tree l image in
    ap (λ r. node_at t (find t (suc fuel) r key)) is
    ∙ ap (λ b. node_at t (find t fuel (t.child x b) key)) (sym byte_is)
    ∙ ap (λ r. node_at t (find t fuel r key)) same
    ∙ leads fuel (omega arith)
