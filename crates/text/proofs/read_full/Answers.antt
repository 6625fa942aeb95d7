use Rattle.std.proofs.Common.{◌≡◌, ℕ, ◌+◌, ◌-◌, ◌≤◌, List, ◌++◌, rules, length, take, drop, sym, ap, ◌∙◌, subst, le_refl, drop_at, length-take-le}
use Rattle.std.proofs.lemmas.Slice.{take-put_mid_below}
use Rattle.std.specs.Io.KnownBytes.{Consumes}
use Rattle.std.proofs.KnownBytes.{Consumes-trans}
use borrow.Rule.Slice.PartMut.{put_mid, post_of}
use lib.Seq.{take-add, take-append-le}
use Rattle.text.proofs.read_full.Goals as goal

-- the start of a list whose part from a on was replaced: the start from before, then the start of the part
filled : (a room k : ℕ) (xs ys : List ℕ) → a ≤ length xs → k ≤ length ys → take a xs ++ take k ys ≡ take (a + k) (put_mid a room xs ys)
filled a room k xs ys within fits =
    let after = post_of a room xs in
    let new = put_mid a room xs ys in
    let part : take k (drop a new) ≡ take k ys = ap (take k) (drop_at (take a xs) (ys ++ after) a (length-take-le a xs within)) ∙ take-append-le k ys after fits in
    ap (λ (l : List ℕ). take a xs ++ l) (sym part)
    ∙ ap (λ (l : List ℕ). l ++ take k (drop a new)) (sym (take-put_mid_below a room xs ys a (le_refl a) within))
    ∙ sym (take-add a k new)

pub loop-n-preserved : goal.loop-n-preserved
loop-n-preserved g c =
    let a = c.loop-n.n in
    let room = length c.loop-n.bytes - a in
    let within = c.loop-n.invariant.0 in
    let new = filled a room c.in_ok-count.count c.loop-n.bytes c.read.new.buf within c.in_ok-count.ensures.bound.0 in
    (search rules, subst (Consumes _ _) new (Consumes-trans _ _ _ _ _ c.loop-n.invariant.1 c.in_ok-count.ensures.bytes.0))
