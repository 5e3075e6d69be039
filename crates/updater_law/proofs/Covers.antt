-- What keeps a layer covered, change by change.
use Rattle.std.proofs.Common.{◌≡◌, ◌≢◌, ℕ, ◌≤◌, ◌==◌, ◌⊎◌, ◌↔◌, true, false, cond, Option, Some, None, inl, inr, refl, sym, subst, ap, ◌∙◌, arith}
use Rattle.std.proofs.lemmas.Bool.{cases_eq, eqb-true, eqb-false}
use Rattle.pm_words.specs.Codes.{empty_state}
use Rattle.updater_law.specs.Covers.{set_at, Lines, IsOpenFor, IsCover, HasCover, LinesEvict}
use Rattle.updater_law.specs.Covered.{IsCovered, ListHas, AreApart, IsTarget}
use Rattle.updater_law.proofs.Columns.{here, other}

-- more keys are exempt: a line is opened, or a line's words become durable
pub covered_more : (listed : ℕ → Type 0) (anchor : ℕ → ℕ) (layer : ℕ → Option ℕ) (E E' : ℕ → Type 0) → ((key : ℕ) → E key → E' key) → IsCovered listed anchor layer E → IsCovered listed anchor layer E'
covered_more listed anchor layer E E' more covered key node bare = covered key node (λ e. bare (more key e))

-- the switch store of a split: its new node's anchor is exempt
pub covered_links : (listed listed' : ℕ → Type 0) (anchor : ℕ → ℕ) (layer : ℕ → Option ℕ) (E : ℕ → Type 0) (n : ℕ) → E (anchor n) → ((m : ℕ) → listed m → listed' m) → ((m : ℕ) → listed' m → listed m ⊎ (m ≡ n))
    → IsCovered listed anchor layer E → IsCovered listed' anchor layer E
covered_links listed listed' anchor layer E n exempt old new covered key node bare =
    let before = covered key node bare in (
      λ leads. (old node (before.0 leads).0, (before.0 leads).1),
      λ has. elim (new node has.0) [
        | inl listed ↦ before.1 (listed, has.1)
        | inr same ↦ absurd (bare (subst E (ap anchor (sym same) ∙ has.1) exempt))
      ],
    )

-- the switch store of a merge: the merged node's anchor is exempt
pub covered_unlinks : (listed listed' : ℕ → Type 0) (anchor : ℕ → ℕ) (layer : ℕ → Option ℕ) (E : ℕ → Type 0) (r : ℕ) → E (anchor r) → ((m : ℕ) → listed' m → listed m) → ((m : ℕ) → listed m → m ≢ r → listed' m)
    → IsCovered listed anchor layer E → IsCovered listed' anchor layer E
covered_unlinks listed listed' anchor layer E r exempt new old covered key node bare =
    let before = covered key node bare in
    let apart : (m : ℕ) → anchor m ≡ key → m ≢ r = λ m is same. bare (subst E (ap anchor (sym same) ∙ is) exempt) in (
      λ leads. let has = before.0 leads in (old node has.0 (apart node has.1), has.1),
      λ has. before.1 (new node has.0, has.1),
    )

-- an anchor of a node that isn't listed
pub covered_anchors : (listed : ℕ → Type 0) (anchor anchor' : ℕ → ℕ) (layer : ℕ → Option ℕ) (E : ℕ → Type 0) → ((m : ℕ) → listed m → anchor' m ≡ anchor m) → IsCovered listed anchor layer E → IsCovered listed anchor' layer E
covered_anchors listed anchor anchor' layer E same covered key node bare =
    let before = covered key node bare in (
      λ leads. let has = before.0 leads in (has.0, same node has.0 ∙ has.1),
      λ has. before.1 (has.0, sym (same node has.0) ∙ has.1),
    )

-- the layer's own switch store: its key is exempt
pub covered_layer : (listed : ℕ → Type 0) (anchor : ℕ → ℕ) (layer layer' : ℕ → Option ℕ) (E : ℕ → Type 0) (key : ℕ) → E key → ((k : ℕ) → k ≢ key → layer' k ≡ layer k) → IsCovered listed anchor layer E → IsCovered listed anchor layer' E
covered_layer listed anchor layer layer' E key exempt others covered k node bare =
    let before = covered k node bare in
    let same : layer' k ≡ layer k = others k (λ e. bare (subst E (sym e) exempt)) in (
      λ leads. before.0 (sym same ∙ leads),
      λ has. same ∙ before.1 has,
    )

-- a line is emptied: its key has what the list has, or another line has it still
pub covered_empties : (listed : ℕ → Type 0) (anchor : ℕ → ℕ) (layer : ℕ → Option ℕ) (E E' : ℕ → Type 0) (key : ℕ) (found : Option ℕ) → AreApart listed anchor → layer key ≡ found → ListHas listed anchor key found ⊎ E' key
    → ((k : ℕ) → k ≢ key → E k → E' k) → IsCovered listed anchor layer E → IsCovered listed anchor layer E'
covered_empties listed anchor layer E E' key found apart is stands others covered k node bare =
    elim (cases_eq k key) [
      | inr ne ↦ covered k node (λ e. bare (others k ne e))
      | inl same ↦ elim stands [
        | inr exempt ↦ absurd (bare (subst E' (sym same) exempt))
        | inl has ↦ at_key found (ap layer same ∙ is) has same
      ]
    ]
  where
    at_key : (found : Option ℕ) → layer k ≡ found → ListHas listed anchor key found → k ≡ key → (layer k ≡ Some node) ↔ (listed node × (anchor node ≡ k))
    at_key None is none same = (
      λ leads. absurd (let no_way : None ≡ Some node = sym is ∙ leads in cc),
      λ has. absurd (none node has.0 (has.1 ∙ same)),
    )
    at_key (Some m) is has same = (
      λ leads. let one : m ≡ node = (let e : Some m ≡ Some node = sym is ∙ leads in cc) in (subst listed one has.0, ap anchor (sym one) ∙ has.1 ∙ sym same),
      λ other. is ∙ ap Some (apart m node has.0 other.0 (has.1 ∙ sym same ∙ sym other.1)),
    )

-- the other row: its layer and its list differ from these at most where its own lines are open
pub covered_elsewhere : (listed listed' : ℕ → Type 0) (anchor anchor' : ℕ → ℕ) (layer layer' : ℕ → Option ℕ) (E E' : ℕ → Type 0) → ((key : ℕ) → E key → E' key) → ((key : ℕ) → (E' key → ⊥) → layer' key ≡ layer key)
    → ((n : ℕ) → listed n → (listed' n × (anchor' n ≡ anchor n)) ⊎ E' (anchor n)) → ((n : ℕ) → listed' n → (listed n × (anchor' n ≡ anchor n)) ⊎ E' (anchor' n))
    → IsCovered listed anchor layer E → IsCovered listed' anchor' layer' E'
covered_elsewhere listed listed' anchor anchor' layer layer' E E' more same hidden shown covered key node bare =
    let before = covered key node (λ e. bare (more key e)) in (
      λ leads. let has = before.0 (sym (same key bare) ∙ leads) in elim (hidden node has.0) [
        | inl there ↦ (there.0, there.1 ∙ has.1)
        | inr exempt ↦ absurd (bare (subst E' has.1 exempt))
      ],
      λ has. elim (shown node has.0) [
        | inl here ↦ same key bare ∙ before.1 (here.0, sym here.1 ∙ has.1)
        | inr exempt ↦ absurd (bare (subst E' has.1 exempt))
      ],
    )

-- What the list has at a key follows from its target: the target's anchor is the key, or no listed node's is.
pub target_has : (listed : ℕ → Type 0) (anchor : ℕ → ℕ) (key m : ℕ) → IsTarget listed anchor key m → ListHas listed anchor key (cond (anchor m == key) (Some m) None)
target_has listed anchor key m target =
    elim (anchor m == key) as (λ b. (anchor m == key) ≡ b → ListHas listed anchor key (cond b (Some m) None)) [
      | true ↦ λ e. (target.here, eqb-true _ _ e)
      | false ↦ λ e. λ n listed_n same.
          let apart : anchor m ≢ key = eqb-false _ _ e in
          let low : anchor m ≤ key = target.low in
          let above : anchor n ≤ anchor m = target.greatest n listed_n (omega arith) in omega (arith, apart)
    ] refl

-- Covers in the two rows of lines.

pub cover_is_open : (now safe : Lines) (key : ℕ) → HasCover now safe key → IsOpenFor now key
cover_is_open now safe key cover = record { line = cover.line; state = cover.covers.state; anchor = cover.covers.anchor }

pub cover_is_durable : (now safe : Lines) (key : ℕ) → HasCover now safe key → IsOpenFor safe key
cover_is_durable now safe key cover = record { line = cover.line; state = cover.covers.safe_state; anchor = cover.covers.safe_anchor }

-- a line's words become durable
pub cover_evicts : (now safe lines : Lines) (key line : ℕ) → LinesEvict now safe lines → IsCover now safe key line → IsCover now lines key line
cover_evicts now safe lines key line evicts cover = record {
  state = cover.state;
  anchor = cover.anchor;
  safe_state = evicts.state line cover.state cover.safe_state;
  safe_anchor = evicts.anchor line (cover.safe_anchor ∙ sym cover.anchor) ∙ cover.anchor;
}

-- a field of a line that is empty: it covers nothing before or after
pub cover_noted : (now : Lines) (anchors : ℕ → ℕ) (safe : Lines) (key line j : ℕ) → now.state j ≡ empty_state → ((i : ℕ) → i ≢ j → anchors i ≡ now.anchor i) → IsCover now safe key line → IsCover (record now { anchor = anchors }) safe key line
cover_noted now anchors safe key line j empty same cover = record {
  state = cover.state;
  anchor = same line (λ e. cover.state (ap now.state e ∙ empty)) ∙ cover.anchor;
  safe_state = cover.safe_state;
  safe_anchor = cover.safe_anchor;
}

-- a state that isn't empty
pub cover_stays : (now safe : Lines) (key line j x : ℕ) → x ≢ 0 → IsCover now safe key line → IsCover (record now { state = set_at now.state j x }) safe key line
cover_stays now safe key line j x some_state cover = record {
  state = λ none. elim (cases_eq line j) [
    | inl e ↦ some_state (sym (here now.state j line x e) ∙ none)
    | inr ne ↦ cover.state (sym (other now.state j line x ne) ∙ none)
  ];
  anchor = cover.anchor;
  safe_state = cover.safe_state;
  safe_anchor = cover.safe_anchor;
}

-- another line is emptied
pub cover_apart : (now safe : Lines) (key line j x : ℕ) → line ≢ j → IsCover now safe key line → IsCover (record now { state = set_at now.state j x }) safe key line
cover_apart now safe key line j x apart cover = record {
  state = λ none. cover.state (sym (other now.state j line x apart) ∙ none);
  anchor = cover.anchor;
  safe_state = cover.safe_state;
  safe_anchor = cover.safe_anchor;
}
