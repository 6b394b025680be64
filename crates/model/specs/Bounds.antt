-- The format's limits and ranges, each named once, for the rows, the table and the code to cite.
use Rattle.std.specs.Prelude.{ℕ, ℤ, pos, negsuc}

-- "The sheet text": the formats that are read, and how high counts and numbers go
abbrev pub first_format : ℕ
first_format = 1

abbrev pub last_format : ℕ
last_format = 3

-- the first format with a line `writes=` after each edge (request (f))
abbrev pub writes_format : ℕ
writes_format = 2

-- the first format with a line `owner=` after each variable (request (k))
abbrev pub owners_format : ℕ
owners_format = 3

abbrev pub max_actions : ℕ
max_actions = 63

abbrev pub max_variables : ℕ
max_variables = 48

abbrev pub max_automata : ℕ
max_automata = 16

abbrev pub max_locations : ℕ
max_locations = 32

-- edges in an automaton, and in all automata together (row 15)
abbrev pub max_edges : ℕ
max_edges = 512

-- the K of `all` and `any`
abbrev pub max_operands : ℕ
max_operands = 512

-- the largest number that names a variable, a location, an automaton
abbrev pub last_variable : ℕ
last_variable = 47

abbrev pub last_location : ℕ
last_location = 31

abbrev pub last_automaton : ℕ
last_automaton = 15

-- numbers in expressions, and the bounds of variables (request (c))
abbrev pub least_number : ℤ
least_number = negsuc 999999999

abbrev pub greatest_number : ℤ
greatest_number = pos 1000000000

-- row 10: the span that every expression's interval must keep to, 2^62 both ways, ends included (request (c))
abbrev pub least_value : ℤ
least_value = negsuc 4611686018427387903

abbrev pub greatest_value : ℤ
greatest_value = pos 4611686018427387904

-- rows 9, 11, 16 and 1
abbrev pub max_depth : ℕ
max_depth = 24

abbrev pub max_nodes : ℕ
max_nodes = 4096

abbrev pub max_tree_nodes : ℕ
max_tree_nodes = 64

abbrev pub max_bytes : ℕ
max_bytes = 65536

-- row 18: the words of a table
abbrev pub table_words : ℕ
table_words = 16384

-- a bound has this added in the table, so that the least number becomes 0
abbrev pub bias : ℕ
bias = 1000000000

-- the greatest number, with the bias
abbrev pub last_biased : ℕ
last_biased = 2000000000

-- the node words from here on are numbers: this, and the number with the bias
abbrev pub first_number_word : ℕ
first_number_word = 2147483648
