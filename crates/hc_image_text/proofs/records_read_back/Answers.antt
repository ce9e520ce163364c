use Rattle.hc_image_text.proofs.Again.{number_again, lead_again, word_again, item_again, key_again, counters_again, numbers_again, open_again, region_again}
use Rattle.hc_image_text.proofs.records_read_back.Goals as goal

pub returns : goal.returns
returns c = record {
  numbers = number_again;
  leads = lead_again;
  words = word_again;
  items = item_again;
  keys = key_again;
  counters = counters_again;
  lists = numbers_again;
  open_regions = open_again;
  regions = region_again;
}
