-- Each field is what its function gives; the page's quads lie in the bank.
use Rattle.sheet_page.specs.State.{page_state_of}
use Rattle.sheet_page.proofs.StateLaws.{quads_in_bank}
use Rattle.sheet_page.proofs.SheetBank.page_state.Goals as goal

pub used_quads-requires : goal.used_quads-requires
used_quads-requires c =
    let a = c.args in
    rw (c.page_index.ensures, c.page_quads-count.ensures, a.self.words_len)
    (quads_in_bank a.self.layout.geometry a.self.layout.in_range a.program a.page c.requires)

pub returns : goal.returns
unfolding page_state_of
returns c =
    rw (
      c.used_quads.ensures,
      c.is_protected.ensures,
      c.page_index.ensures,
      c.page_quads-count.ensures,
      c.is_upper-upper.ensures,
    )
