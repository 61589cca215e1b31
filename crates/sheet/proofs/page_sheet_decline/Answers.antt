-- The first test that fails decides.
use Rattle.std.proofs.Common.{ap, arith}
use borrow.Author.Tests.{le-leb, lt-leb}
use Rattle.geometry.specs.Banks.{pages_of}
use Rattle.sheet.specs.Sheet.{sheet_bytes_of, page_sheet_decline_of}
use Rattle.sheet.proofs.page_sheet_decline.Goals as goal

pub returns-then-buffer-pages-clause-verdict : goal.returns-then-buffer-pages-clause-verdict
unfolding page_sheet_decline_of
returns-then-buffer-pages-clause-verdict c =
    rw (
      ← c.in_ok-layout.ensures.verdict,
      lt-leb (sheet_bytes_of c.args.g) c.args.buffer (omega (arith, c.if-buffer-pages.true, c.pages.ensures, ap pages_of c.in_ok-layout.ensures.layout)),
    )

pub returns-clause-verdict : goal.returns-clause-verdict
unfolding page_sheet_decline_of
returns-clause-verdict c =
    rw (
      ← c.in_ok-layout.ensures.verdict,
      le-leb (sheet_bytes_of c.args.g) c.args.buffer (omega (arith, c.if-buffer-pages.false, c.pages.ensures, ap pages_of c.in_ok-layout.ensures.layout)),
    )
