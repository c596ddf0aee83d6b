-- Names for the numbers of kinds and details.
use Rattle.std.specs.Prelude.{ℕ}

abbrev pub identifier : ℕ
identifier = 1

abbrev pub leaf : ℕ
leaf = 2

abbrev pub number : ℕ
number = 3

abbrev pub big_int : ℕ
big_int = 4

abbrev pub string : ℕ
string = 5

abbrev pub template : ℕ
template = 6

abbrev pub unary : ℕ
unary = 7

abbrev pub update : ℕ
update = 8

abbrev pub binary : ℕ
binary = 9

abbrev pub logical : ℕ
logical = 10

abbrev pub assignment : ℕ
assignment = 11

abbrev pub conditional : ℕ
conditional = 12

abbrev pub sequence : ℕ
sequence = 13

abbrev pub parenthesized : ℕ
parenthesized = 14

abbrev pub wrapper : ℕ
wrapper = 15

abbrev pub array : ℕ
array = 16

abbrev pub object : ℕ
object = 17

abbrev pub static_member : ℕ
static_member = 18

abbrev pub computed_member : ℕ
computed_member = 19

abbrev pub private_member : ℕ
private_member = 20

abbrev pub private_in : ℕ
private_in = 21

abbrev pub chain : ℕ
chain = 22

abbrev pub call : ℕ
call = 23

abbrev pub function : ℕ
function = 24

abbrev pub class_expression : ℕ
class_expression = 25

abbrev pub spread : ℕ
spread = 30

abbrev pub hole : ℕ
hole = 31

abbrev pub property : ℕ
property = 32

abbrev pub object_spread : ℕ
object_spread = 33

abbrev pub decorator : ℕ
decorator = 34

abbrev pub method : ℕ
method = 35

abbrev pub field : ℕ
field = 36

abbrev pub static_block : ℕ
static_block = 37

abbrev pub target_pattern : ℕ
target_pattern = 38

abbrev pub declarator : ℕ
declarator = 39

abbrev pub switch_case : ℕ
switch_case = 40

abbrev pub catch_clause : ℕ
catch_clause = 41

abbrev pub binding : ℕ
binding = 42

abbrev pub array_pattern : ℕ
array_pattern = 43

abbrev pub object_pattern : ℕ
object_pattern = 44

abbrev pub default_pattern : ℕ
default_pattern = 45

abbrev pub pattern_property : ℕ
pattern_property = 46

abbrev pub rest : ℕ
rest = 47

abbrev pub block : ℕ
block = 50

abbrev pub expression_statement : ℕ
expression_statement = 51

abbrev pub loop : ℕ
loop = 52

abbrev pub if_statement : ℕ
if_statement = 53

abbrev pub label : ℕ
label = 54

abbrev pub return_statement : ℕ
return_statement = 55

abbrev pub switch_statement : ℕ
switch_statement = 56

abbrev pub try_statement : ℕ
try_statement = 57

abbrev pub empty_statement : ℕ
empty_statement = 58

abbrev pub acting_statement : ℕ
acting_statement = 59

abbrev pub variables : ℕ
variables = 60

abbrev pub function_declaration : ℕ
function_declaration = 61

abbrev pub class_declaration : ℕ
class_declaration = 62

-- details of a leaf, of unary and of binary operators, and of declarations of variables
abbrev pub null_literal : ℕ
null_literal = 0

abbrev pub boolean : ℕ
boolean = 1

abbrev pub regular_expression : ℕ
regular_expression = 2

abbrev pub import_meta : ℕ
import_meta = 3

abbrev pub negation : ℕ
negation = 0

abbrev pub plus : ℕ
plus = 1

abbrev pub logical_not : ℕ
logical_not = 2

abbrev pub bitwise_not : ℕ
bitwise_not = 3

abbrev pub typeof : ℕ
typeof = 4

abbrev pub void : ℕ
void = 5

abbrev pub delete : ℕ
delete = 6

abbrev pub not_equal : ℕ
not_equal = 1

abbrev pub strictly_equal : ℕ
strictly_equal = 2

abbrev pub strictly_not_equal : ℕ
strictly_not_equal = 3

abbrev pub less : ℕ
less = 4

abbrev pub at_most : ℕ
at_most = 5

abbrev pub at_least : ℕ
at_least = 7

abbrev pub addition : ℕ
addition = 8

abbrev pub subtraction : ℕ
subtraction = 9

abbrev pub division : ℕ
division = 11

abbrev pub remainder : ℕ
remainder = 12

abbrev pub exponential : ℕ
exponential = 13

abbrev pub unsigned_shift : ℕ
unsigned_shift = 16

abbrev pub bitwise_and : ℕ
bitwise_and = 19

abbrev pub in_operator : ℕ
in_operator = 20

abbrev pub instance_of : ℕ
instance_of = 21

abbrev pub and_operator : ℕ
and_operator = 0

abbrev pub or_operator : ℕ
or_operator = 1

abbrev pub coalesce : ℕ
coalesce = 2

abbrev pub assign : ℕ
assign = 0

abbrev pub assign_addition : ℕ
assign_addition = 1

abbrev pub assign_unsigned_shift : ℕ
assign_unsigned_shift = 9

abbrev pub assign_logical : ℕ
assign_logical = 13

abbrev pub getter : ℕ
getter = 1

abbrev pub arrow : ℕ
arrow = 1

abbrev pub with_using : ℕ
with_using = 3

abbrev pub with_await_using : ℕ
with_await_using = 4
