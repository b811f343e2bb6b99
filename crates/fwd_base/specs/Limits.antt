-- The limits of the program, each in one place.
use Rattle.std.specs.Prelude.{ℕ}

-- a line has at most so many bytes; a longer one is cut to its first bytes
abbrev pub longest_line : ℕ
longest_line = 32768

-- one read of an input, and one of stored content, has at most so many bytes
abbrev pub longest_piece : ℕ
longest_piece = 65536

-- the events of a batch have at most so many bytes as they are stored
abbrev pub largest_batch : ℕ
largest_batch = 16777216

-- a forward message has at most so many bytes
abbrev pub longest_message : ℕ
longest_message = 16777216

-- a chunk is closed once its content has so many bytes
abbrev pub full_chunk : ℕ
full_chunk = 2048000

-- chunks and files are numbered below this
abbrev pub numbers_end : ℕ
numbers_end = 9223372036854775808

-- a chunk's file has at most so many bytes; a longer one isn't loaded
abbrev pub longest_file : ℕ
longest_file = 67108864

-- the reply of a peer to a payload has at most so many bytes
abbrev pub longest_reply : ℕ
longest_reply = 1024

-- the response of an HTTP server has at most so many bytes up to the end of its final head
abbrev pub longest_head : ℕ
longest_head = 8192

-- one read of a followed file requests at most so many bytes
abbrev pub longest_read : ℕ
longest_read = 1048576

-- the name of an output in a chunk's file has at most so many bytes
abbrev pub longest_name : ℕ
longest_name = 255

-- recovered files are checked in groups: a group is full with so many files, or with so many bytes
abbrev pub group_files : ℕ
group_files = 4096

abbrev pub group_bytes : ℕ
group_bytes = 268435456

-- the latest time of the clock, in milliseconds since 1970; a later one counts as this
abbrev pub latest_time : ℕ
latest_time = 4294967295999

-- a configuration has at most so many inputs, and at most so many outputs
abbrev pub most_inputs : ℕ
most_inputs = 64

abbrev pub most_outputs : ℕ
most_outputs = 64

-- values are nested at most so deep
abbrev pub deepest : ℕ
deepest = 64

-- a tag has at most so many bytes
abbrev pub longest_tag : ℕ
longest_tag = 1024

-- the engine waits for an event for at most so many milliseconds
abbrev pub longest_wait : ℕ
longest_wait = 250

-- at most so many flushes are under way at a time to an output with peers
abbrev pub most_peer_flushes : ℕ
most_peer_flushes = 4

-- all `ticks` lines of a schedule together have at most so many clock readings
abbrev pub most_ticks : ℕ
most_ticks = 10000000

-- the header of a chunk's file has so many bytes
abbrev pub chunk_header : ℕ
chunk_header = 24
