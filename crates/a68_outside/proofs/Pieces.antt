-- Known bytes that grow and shrink piece by piece.
use Rattle.std.proofs.Common.{◌≡◌, ℕ, ◌+◌, ◌-◌, ◌≤◌, List, [], ◌++◌, length, take, drop, ap, sym, ◌∙◌, refl, append_assoc, IfSome}
use Rattle.std.proofs.lemmas.List.{append-nil}
use Rattle.std.proofs.Math.Seq.{take-add, take-append_seam}
use Rattle.a68_base.proofs.Slices.{take_past, slice_from}
use Rattle.std.specs.Io.KnownBytes.{append_known, prepend_known, IsAtEnd}
use Rattle.std.specs.declared.option.Option.{Option}
use Rattle.std.specs.Prelude.{None, Some}

pub append_known-nil : (o : Option (List ℕ)) → o ≡ append_known o []
append_known-nil None = refl
append_known-nil (Some xs) = ap (λ l. Some l) (sym (append-nil xs))

pub append_known-append_known : (o : Option (List ℕ)) (xs ys : List ℕ) → append_known (append_known o xs) ys ≡ append_known o (xs ++ ys)
append_known-append_known None xs ys = refl
append_known-append_known (Some zs) xs ys = ap (λ l. Some l) (append_assoc zs xs ys)

-- what was received is the first i of the text, and then a write takes the first n of the rest
pub received_more : (first old new : Option (List ℕ)) (text : List ℕ) (i n : ℕ)
    → old ≡ append_known first (take i text) → new ≡ append_known old (take n (take (length text - i) (drop i text)))
    → new ≡ append_known first (take (i + n) text)
received_more first old new text i n was is =
    is ∙ ap (λ l. append_known old (take n l)) (slice_from i text)
    ∙ ap (λ o. append_known o (take n (drop i text))) was
    ∙ append_known-append_known first (take i text) (take n (drop i text))
    ∙ ap (λ l. append_known first l) (sym (take-add i n text))

pub prepend_known-prepend_known : (xs ys : List ℕ) (o : Option (List ℕ)) → prepend_known xs (prepend_known ys o) ≡ prepend_known (xs ++ ys) o
prepend_known-prepend_known xs ys None = refl
prepend_known-prepend_known xs ys (Some zs) = ap (λ l. Some l) (sym (append_assoc xs ys zs))

pub prepend_known-nil : (o : Option (List ℕ)) → o ≡ prepend_known [] o
prepend_known-nil None = refl
prepend_known-nil (Some xs) = refl

-- the bytes so far and those left are those of the start, and a read takes more of those left
pub left_more : (first old new : Option (List ℕ)) (items part : List ℕ)
    → first ≡ prepend_known items old → old ≡ prepend_known part new
    → first ≡ prepend_known (items ++ part) new
left_more first old new items part was is =
    was ∙ ap (λ o. prepend_known items o) is ∙ prepend_known-prepend_known items part new

-- nothing is left, so all was read
pub read_all : (first rest : Option (List ℕ)) (items : List ℕ) (most : ℕ)
    → first ≡ prepend_known items rest → IsAtEnd rest → length items ≤ most
    → IfSome first (λ all. items ≡ take most all)
read_all None rest items most e end fits = tt
read_all (Some all) None items most e end fits = cc
read_all (Some all) (Some rest) items most e end fits =
    let whole : all ≡ items ++ rest = cc in
    let same : all ≡ items = whole ∙ ap (λ l. items ++ l) end ∙ append-nil items in
    sym (take_past most items fits) ∙ ap (λ l. take most l) (sym same)

-- as many as wanted were read
pub read_most : (first rest : Option (List ℕ)) (items : List ℕ) (most : ℕ)
    → first ≡ prepend_known items rest → length items ≡ most
    → IfSome first (λ all. items ≡ take most all)
read_most None rest items most e full = tt
read_most (Some all) None items most e full = cc
read_most (Some all) (Some rest) items most e full =
    let whole : all ≡ items ++ rest = cc in
    sym (take-append_seam items rest) ∙ ap (λ l. take (length items) l) (sym whole) ∙ ap (λ n. take n all) full
