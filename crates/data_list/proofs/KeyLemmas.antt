-- The name that the words of a key keep.
use Rattle.std.proofs.Common.{◌≡◌, ℕ, zero, suc, ◌<◌, ◌&&◌, true, false, cond, List, [], ◌∷◌, length, get_or, Option, Some, None, refl, sym, subst, ap, ◌∙◌, arith}
use Rattle.std.specs.Prelude.{All, IsSome, IfSome, ◌↔◌, slice_index}
use Rattle.std.proofs.lemmas.Bool.{eqb-true, eq-eqb, leb-true, le-leb, and_parts, and_from, both_ways}
use Rattle.cat_key.specs.Names.{IsName, IsNameByte, AreNameWords, words_of, bytes_of}
use Rattle.cat_key.proofs.Packing.{bytes_of-words_of, length-words_of, packed_from_words}
use Rattle.data_list.specs.Keys.{IsNameOf, are_name_bytes, is_name, keeps, name_kept, key_words}

bytes_are : (text : List ℕ) → are_name_bytes text ≡ true → All IsNameByte text
bytes_are [] is = λ k d none. absurd (omega arith)
bytes_are (byte ∷ text) is = at (bytes_are text (and_parts _ _ is).1)
  where
    at : All IsNameByte text → (k d : ℕ) → k < suc (length text) → IsNameByte (get_or (byte ∷ text) k d)
    at rest zero d within = let here = and_parts _ _ (and_parts _ _ is).0 in (leb-true _ _ here.0, leb-true _ _ here.1)
    at rest (suc k) d within = rest k d (omega arith)

are_bytes : (text : List ℕ) → All IsNameByte text → are_name_bytes text ≡ true
are_bytes [] all = refl
are_bytes (byte ∷ text) all =
    let here = all 0 0 (omega arith) in
    and_from _ _ (and_from _ _ (le-leb 0x21 byte here.0) (le-leb byte 0x7E here.1)) (are_bytes text (λ k d within. all (suc k) d (omega arith)))

name_is : (text : List ℕ) → is_name text ≡ true → IsName text
name_is text is =
    let parts = and_parts _ _ is in
    let rest = and_parts _ _ parts.1 in
    record { some = leb-true _ _ parts.0; fits = leb-true _ _ rest.0; bytes = bytes_are text rest.1 }

is_name_of : (text : List ℕ) → IsName text → is_name text ≡ true
is_name_of text is = and_from _ _ (le-leb _ _ is.some) (and_from _ _ (le-leb _ _ is.fits) (are_bytes text is.bytes))

-- three words are their own list
pub three : (words : List ℕ) (k : List ℕ) → length words ≡ 3 → slice_index words 0 ≡ slice_index k 0 → slice_index words 1 ≡ slice_index k 1 → slice_index words 2 ≡ slice_index k 2 → words ≡ key_words k
three [] k size a b c = absurd (omega arith)
three (x ∷ []) k size a b c = absurd (omega arith)
three (x ∷ y ∷ []) k size a b c = absurd (omega arith)
three (x ∷ y ∷ z ∷ []) k size a b c = λ i. a i ∷ b i ∷ c i ∷ []
three (x ∷ y ∷ z ∷ w ∷ more) k size a b c = absurd (omega arith)

keeps_is : (k : List ℕ) (text : List ℕ) → keeps k text ≡ true → words_of text ≡ key_words k
keeps_is k text is =
    let parts = and_parts _ _ is in
    let rest = and_parts _ _ parts.1 in
    three (words_of text) k (length-words_of text) (eqb-true _ _ parts.0) (eqb-true _ _ rest.0) (eqb-true _ _ rest.1)

is_kept : (k : List ℕ) (text : List ℕ) → words_of text ≡ key_words k → keeps k text ≡ true
is_kept k text is =
    and_from _ _ (eq-eqb _ _ (ap (λ (words : List ℕ). slice_index words 0) is))
    (and_from _ _ (eq-eqb _ _ (ap (λ (words : List ℕ). slice_index words 1) is)) (eq-eqb _ _ (ap (λ (words : List ℕ). slice_index words 2) is)))

-- what is found to be the name of the words is the one that they keep
pub name_kept_is : (k : List ℕ) (found : Option (List ℕ)) → (IsSome found ↔ AreNameWords (key_words k)) → IfSome found IsName → IfSome found (λ name. words_of name ≡ key_words k) → found ≡ name_kept k
unfolding name_kept
name_kept_is k found known named whole =
    let text = bytes_of (key_words k) in
    elim (is_name text && keeps k text) as (λ b. (is_name text && keeps k text) ≡ b → found ≡ cond b (Some text) None) [
      | true ↦ λ is. let parts = and_parts _ _ is in kept found known named whole (name_is text parts.0) (keeps_is k text parts.1)
      | false ↦ λ not. lacks found known named whole not
    ] refl
  where
    nothing : IsSome (let none : Option (List ℕ) = None in none) → ⊥
    nothing some = cc

    same : (name : List ℕ) → IsName name → words_of name ≡ key_words k → name ≡ bytes_of (key_words k)
    same name named whole = sym (bytes_of-words_of name named) ∙ ap bytes_of whole

    kept : (found : Option (List ℕ)) → (IsSome found ↔ AreNameWords (key_words k)) → IfSome found IsName → IfSome found (λ name. words_of name ≡ key_words k)
        → IsName (bytes_of (key_words k)) → words_of (bytes_of (key_words k)) ≡ key_words k → found ≡ Some (bytes_of (key_words k))
    kept None known named whole is is_whole = absurd (nothing (known.1 (bytes_of (key_words k), is, is_whole)))
    kept (Some name) known named whole is is_whole = ap Some (same name named whole)

    lacks : (found : Option (List ℕ)) → (IsSome found ↔ AreNameWords (key_words k)) → IfSome found IsName → IfSome found (λ name. words_of name ≡ key_words k)
        → (is_name (bytes_of (key_words k)) && keeps k (bytes_of (key_words k))) ≡ false → found ≡ None
    lacks None known named whole not = refl
    lacks (Some name) known named whole not =
        let is = same name named whole in
        absurd (both_ways _ not (and_from _ _ (is_name_of _ (subst IsName is named)) (is_kept k _ (ap words_of (sym is) ∙ whole))))

-- so it is the name of the words
pub name_kept_so : (k : List ℕ) → IsNameOf (key_words k) (name_kept k)
unfolding name_kept
name_kept_so k =
    let text = bytes_of (key_words k) in
    elim (is_name text && keeps k text) as (λ b. (is_name text && keeps k text) ≡ b → IsNameOf (key_words k) (cond b (Some text) None)) [
      | true ↦ λ is. let parts = and_parts _ _ is in
          let named = name_is text parts.0 in
          let whole = keeps_is k text parts.1 in
          record { some = ((λ some. (text, named, whole)), (λ words. refl)); named = named; whole = whole }
      | false ↦ λ not. record { some = ((λ some. cc), (λ words. absurd (nameless words not))); named = tt; whole = tt }
    ] refl
  where
    nameless : AreNameWords (key_words k) → (is_name (bytes_of (key_words k)) && keeps k (bytes_of (key_words k))) ≡ false → ⊥
    nameless words not =
        let packed = packed_from_words (key_words k) words in
        both_ways _ not (and_from _ _ (is_name_of _ packed.named) (is_kept k _ packed.whole))

-- and the only one
pub one_name : (k : List ℕ) (found : Option (List ℕ)) → IsNameOf (key_words k) found → found ≡ name_kept k
one_name k found is = name_kept_is k found is.some is.named is.whole
