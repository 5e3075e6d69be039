-- When a search layer is covered: it leads each key but those that are exempt exactly as the list has it.
use Rattle.std.specs.Prelude.{◌≡◌, ◌≢◌, ℕ, ◌≤◌, ◌↔◌, Option, Some, None}
use Rattle.layer_map.specs.Layers.{Layer}

-- A key that isn't exempt leads to a node exactly where the node is listed and the key is its anchor.
abbrev pub IsCovered : (ℕ → Type 0) → (ℕ → ℕ) → Layer → (ℕ → Type 0) → Type 0
IsCovered listed anchor layer Exempt =
    (key node : ℕ) → (Exempt key → ⊥) → (layer key ≡ Some node) ↔ (listed node × (anchor node ≡ key))

-- what the list has at a key: a node with this anchor, or none
abbrev pub ListHas : (ℕ → Type 0) → (ℕ → ℕ) → ℕ → Option ℕ → Type 0
ListHas listed anchor key None = (node : ℕ) → listed node → anchor node ≢ key
ListHas listed anchor key (Some node) = listed node × (anchor node ≡ key)

-- no two listed nodes have one anchor
abbrev pub AreApart : (ℕ → Type 0) → (ℕ → ℕ) → Type 0
AreApart listed anchor = (n m : ℕ) → listed n → listed m → anchor n ≡ anchor m → n ≡ m

-- the key's target: of the listed nodes whose anchor is no greater, the one with the greatest
pub record IsTarget (listed : ℕ → Type 0) (anchor : ℕ → ℕ) (key node : ℕ) : Type 0 where
  pub here : listed node
  pub low : anchor node ≤ key
  pub greatest : (n : ℕ) → listed n → anchor n ≤ key → anchor n ≤ anchor node
