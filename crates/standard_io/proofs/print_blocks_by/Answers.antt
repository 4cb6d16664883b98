use Rattle.standard_io.proofs.print_blocks_by.Goals as goal

pub returns : goal.returns
returns g c = record {
  file = c.read_file.result.now;
  taken = c.read_file.ensures;
  text = c.blocks_text_by-text.ensures.value;
}
