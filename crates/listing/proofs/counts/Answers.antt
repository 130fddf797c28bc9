-- By the test of the header.
use Rattle.std.proofs.Common.{ap₂, ◌∙◌, ℕ, ◌+◌, rules, arith}
use Rattle.listing.proofs.ListingLaws.{no_counts, with_counts, counts_header}
use Rattle.listing.proofs.counts.Goals as goal

pub returns-then-not-has_counts : goal.returns-then-not-has_counts
returns-then-not-has_counts c =
    let none = no_counts _ _ c.has_counts.ensures c.if-not-has_counts.true in (none.0, none.1, search rules)

pub identifiers-identifiers-requires : goal.identifiers-identifiers-requires
identifiers-identifiers-requires c = (counts_header _ _ c.has_counts.ensures c.if-not-has_counts.false).0

pub nodes-requires : goal.nodes-requires
nodes-requires c = (counts_header _ _ c.has_counts.ensures c.if-not-has_counts.false).0

pub returns : goal.returns
returns c =
    let h = counts_header _ _ c.has_counts.ensures c.if-not-has_counts.false in
    let w = with_counts _ _ c.has_counts.ensures c.if-not-has_counts.false in (
      c.identifiers-identifiers.ensures ∙ w.0,
      ap₂ (λ (i n : ℕ). i + n) c.identifiers-identifiers.ensures c.nodes.ensures ∙ w.1,
      omega (arith, c.nodes.ensures, c.identifiers-identifiers.ensures, h.1, h.2),
    )
