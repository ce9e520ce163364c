-- The invariant holds after each line of the worked runs: all its parts are tried there, and none is wrong.
use Rattle.std.proofs.Common.{◌≡◌, [], refl}
use Rattle.hc_bucket.specs.Reading.{page_at, entries_at, entry_at, body_at, content_at, whole_at}
use Rattle.hc_engines.specs.small.Bloom.{bits_of}
use Rattle.hc_legal.proofs.Logs.{two_pools}
use Rattle.hc_machine.proofs.Tables.{lines_of, no_flash}
use Rattle.hc_machine.proofs.MemoryRows.{found_until_removed, no_room_for_two, longest_unused_goes, replaced, expires_in_memory}
use Rattle.hc_machine.proofs.SmallRows.{one_item, up_to_200, up_to_400, back_from_flash, three_wait, waiting_put_is_found, removed_while_written, pushed_out, copy_pushed_out, buried_is_not_queued}
use Rattle.hc_machine.proofs.LargeRows.{one_page, two_clean, two_pages, large_set_anew, read_as_it_goes_out, reclaimed_while_read, one_hash, page_by_page}
use Rattle.hc_machine.proofs.FillRows.{two_items, small_set_anew, values_expire, add_finds_a_value, add_stores}
use Rattle.hc_machine.proofs.FaultRows.{bucket_given_up, read_fails, rewrite_fails}
use Rattle.hc_machine.proofs.RefusedRows.{tight, narrow, refused_calls, not_taken, longest_key}
use Rattle.hc_invariant.specs.Trial.{tried}

-- ---- without flash

pub found_until_removed-holds : tried (no_flash 1000 10) (lines_of found_until_removed) ≡ []
unfolding page_at entries_at entry_at body_at content_at whole_at bits_of
found_until_removed-holds = refl

pub no_room_for_two-holds : tried (no_flash 100 10) (lines_of no_room_for_two) ≡ []
unfolding page_at entries_at entry_at body_at content_at whole_at bits_of
no_room_for_two-holds = refl

pub longest_unused_goes-holds : tried (no_flash 106 10) (lines_of longest_unused_goes) ≡ []
unfolding page_at entries_at entry_at body_at content_at whole_at bits_of
longest_unused_goes-holds = refl

pub replaced-holds : tried (no_flash 1000 10) (lines_of replaced) ≡ []
unfolding page_at entries_at entry_at body_at content_at whole_at bits_of
replaced-holds = refl

pub expires_in_memory-holds : tried (no_flash 1000 1) (lines_of expires_in_memory) ≡ []
unfolding page_at entries_at entry_at body_at content_at whole_at bits_of
expires_in_memory-holds = refl

-- ---- small items

pub back_from_flash-holds : tried one_item (lines_of back_from_flash) ≡ []
unfolding page_at entries_at entry_at body_at content_at whole_at bits_of
back_from_flash-holds = refl

pub three_wait-holds : tried one_item (lines_of three_wait) ≡ []
unfolding page_at entries_at entry_at body_at content_at whole_at bits_of
three_wait-holds = refl

pub waiting_put_is_found-holds : tried one_item (lines_of waiting_put_is_found) ≡ []
unfolding page_at entries_at entry_at body_at content_at whole_at bits_of
waiting_put_is_found-holds = refl

pub removed_while_written-holds : tried one_item (lines_of removed_while_written) ≡ []
unfolding page_at entries_at entry_at body_at content_at whole_at bits_of
removed_while_written-holds = refl

pub pushed_out-holds : tried up_to_200 (lines_of pushed_out) ≡ []
unfolding page_at entries_at entry_at body_at content_at whole_at bits_of
pushed_out-holds = refl

pub copy_pushed_out-holds : tried up_to_400 (lines_of copy_pushed_out) ≡ []
unfolding page_at entries_at entry_at body_at content_at whole_at bits_of
copy_pushed_out-holds = refl

pub buried_is_not_queued-holds : tried one_item (lines_of buried_is_not_queued) ≡ []
unfolding page_at entries_at entry_at body_at content_at whole_at bits_of
buried_is_not_queued-holds = refl

-- ---- large items

pub large_set_anew-holds : tried one_page (lines_of large_set_anew) ≡ []
unfolding page_at entries_at entry_at body_at content_at whole_at bits_of
large_set_anew-holds = refl

pub read_as_it_goes_out-holds : tried one_page (lines_of read_as_it_goes_out) ≡ []
unfolding page_at entries_at entry_at body_at content_at whole_at bits_of
read_as_it_goes_out-holds = refl

pub reclaimed_while_read-holds : tried two_clean (lines_of reclaimed_while_read) ≡ []
unfolding page_at entries_at entry_at body_at content_at whole_at bits_of
reclaimed_while_read-holds = refl

pub one_hash-holds : tried one_page (lines_of one_hash) ≡ []
unfolding page_at entries_at entry_at body_at content_at whole_at bits_of
one_hash-holds = refl

pub page_by_page-holds : tried two_pages (lines_of page_by_page) ≡ []
unfolding page_at entries_at entry_at body_at content_at whole_at bits_of
page_by_page-holds = refl

-- ---- calls that wait

pub small_set_anew-holds : tried one_item (lines_of small_set_anew) ≡ []
unfolding page_at entries_at entry_at body_at content_at whole_at bits_of
small_set_anew-holds = refl

pub values_expire-holds : tried one_item (lines_of values_expire) ≡ []
unfolding page_at entries_at entry_at body_at content_at whole_at bits_of
values_expire-holds = refl

pub add_finds_a_value-holds : tried two_items (lines_of add_finds_a_value) ≡ []
unfolding page_at entries_at entry_at body_at content_at whole_at bits_of
add_finds_a_value-holds = refl

pub add_stores-holds : tried two_items (lines_of add_stores) ≡ []
unfolding page_at entries_at entry_at body_at content_at whole_at bits_of
add_stores-holds = refl

-- ---- a device that fails

pub bucket_given_up-holds : tried two_pools (lines_of bucket_given_up) ≡ []
unfolding page_at entries_at entry_at body_at content_at whole_at bits_of
bucket_given_up-holds = refl

pub read_fails-holds : tried one_item (lines_of read_fails) ≡ []
unfolding page_at entries_at entry_at body_at content_at whole_at bits_of
read_fails-holds = refl

pub rewrite_fails-holds : tried one_item (lines_of rewrite_fails) ≡ []
unfolding page_at entries_at entry_at body_at content_at whole_at bits_of
rewrite_fails-holds = refl

-- ---- refusals

pub refused_calls-holds : tried tight (lines_of refused_calls) ≡ []
unfolding page_at entries_at entry_at body_at content_at whole_at bits_of
refused_calls-holds = refl

pub not_taken-holds : tried narrow (lines_of not_taken) ≡ []
unfolding page_at entries_at entry_at body_at content_at whole_at bits_of
not_taken-holds = refl

pub longest_key-holds : tried (no_flash 1000 10) (lines_of longest_key) ≡ []
unfolding page_at entries_at entry_at body_at content_at whole_at bits_of
longest_key-holds = refl
