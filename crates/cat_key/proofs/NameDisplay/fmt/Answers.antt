use Rattle.std.proofs.Common.{◌≡◌, ℕ, List, length, get_or, IsUtf8, ◌∙◌, inl, inr, arith, lit<}
use Rattle.std.proofs.lemmas.Bool.{cases_lt}
use Rattle.std.proofs.lemmas.List.{get_or_past}
use Rattle.std.proofs.lemmas.List.Elements.{All-get_or}
use Rattle.std.proofs.lemmas.Str.{IsUtf8-from_ascii}
use Rattle.cat_key.specs.Names.{IsName, IsNameByte}
use Rattle.cat_key.proofs.Bytes.{bytes_of-text}
use Rattle.cat_key.proofs.NameDisplay.fmt.Goals as goal

-- a name is text
IsUtf8-from_name : (name : List ℕ) → IsName name → IsUtf8 name
IsUtf8-from_name name h =
    IsUtf8-from_ascii name (λ at. elim (cases_lt at (length name)) [
      | inl within ↦
          let byte : IsNameByte (get_or name at 0) = All-get_or IsNameByte name at 0 within h.bytes in omega arith
      | inr past ↦ rw (get_or_past name at 0 past) (lit< tt)
    ])

pub as_str-requires : goal.as_str-requires
as_str-requires g c =
    let text = bytes_of-text c.self.inside.words c.unpacked.result c.text_in.result.now c.unpacked.ensures c.text_in.ensures in
    rw text (IsUtf8-from_name _ c.self.invariant.named)

pub returns-clause-writes : goal.returns-clause-writes
returns-clause-writes g c =
    let text = bytes_of-text c.self.inside.words c.unpacked.result c.text_in.result.now c.unpacked.ensures c.text_in.ensures in
    let same : c.as_str.result.now ≡ c.args.self.now = c.as_str.ensures ∙ text ∙ c.self.view_is in
    rw same at c.pad.ensures.writes

pub returns-clause-styled : goal.returns-clause-styled
returns-clause-styled g c =
    let text = bytes_of-text c.self.inside.words c.unpacked.result c.text_in.result.now c.unpacked.ensures c.text_in.ensures in
    let same : c.as_str.result.now ≡ c.args.self.now = c.as_str.ensures ∙ text ∙ c.self.view_is in
    rw same at c.pad.ensures.text
