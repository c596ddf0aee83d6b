-- The kinds, and their two numbers in the format.
use Rattle.std.specs.Prelude.{◌≡◌, ℕ, cond, List, [], ◌∷◌, None, Option, slice_get, Result, ◌==◌, nat_lt}
use Rattle.std.specs.Option.{option_map, ok_or}
use Rattle.rules.specs.declared.kind.Kind.{Kind}
use Rattle.rules.specs.declared.kind.UnknownKind.{UnknownKind}
use Rattle.rules.specs.declared.kind.Kind.TheVariants.{Identifier, NullLiteral, BooleanLiteral, RegExpLiteral, ImportMeta, NewTarget, Super, NumericLiteral, BigIntLiteral, StringLiteral, TemplateLiteral, UnaryExpression, UpdateExpression, BinaryExpression, LogicalExpression, AssignmentExpression, ConditionalExpression, SequenceExpression, ParenthesizedExpression, TypeScriptExpression, ArrayExpression, ObjectExpression, StaticMemberExpression, ComputedMemberExpression, PrivateFieldExpression, PrivateInExpression, ChainExpression, CallExpression, CallLike, FunctionExpression, ArrowFunctionExpression, ClassExpression, SpreadElement, Elision, ObjectProperty, SpreadProperty, Decorator, MethodDefinition, PropertyDefinition, StaticBlock, AssignmentTargetPattern, VariableDeclarator, SwitchCase, CatchClause, BindingIdentifier, ArrayPattern, ObjectPattern, AssignmentPattern, BindingProperty, BindingRestElement, BlockStatement, ExpressionStatement, WhileStatement, DoWhileStatement, IfStatement, LabeledStatement, ReturnStatement, SwitchStatement, TryStatement, EmptyStatement, ActingStatement, VariableDeclaration, FunctionDeclaration, ClassDeclaration}
use Rattle.rules.specs.Details.{unary_of, unary_number, binary_of, binary_number, logical_of, logical_number, assignment_of, assignment_number, wrapper_of, wrapper_number, property_of, property_number, declared_of, declared_number, flag_of, flag, modifiers_of, modifiers_number}

-- the kind of this detail among those listed, from detail 0 on
abbrev pub nth : ℕ → List Kind → Option Kind
nth d kinds = slice_get kinds d

abbrev pub primary_of : ℕ → ℕ → Option Kind
primary_of k d =
    cond (k == 1) (nth d (Identifier ∷ []))
    (cond (k == 2) (nth d (NullLiteral ∷ BooleanLiteral ∷ RegExpLiteral ∷ ImportMeta ∷ NewTarget ∷ Super ∷ []))
    (cond (k == 3) (nth d (NumericLiteral ∷ []))
    (cond (k == 4) (nth d (BigIntLiteral ∷ []))
    (cond (k == 5) (nth d (StringLiteral ∷ []))
    (cond (k == 6) (nth d (TemplateLiteral ∷ [])) None)))))

abbrev pub operation_of : ℕ → ℕ → Option Kind
operation_of k d =
    cond (k == 7) (option_map UnaryExpression (unary_of d))
    (cond (k == 8) (nth d (UpdateExpression ∷ []))
    (cond (k == 9) (option_map BinaryExpression (binary_of d))
    (cond (k == 10) (option_map LogicalExpression (logical_of d))
    (cond (k == 11) (option_map AssignmentExpression (assignment_of d))
    (cond (k == 12) (nth d (ConditionalExpression ∷ []))
    (cond (k == 13) (nth d (SequenceExpression ∷ []))
    (cond (k == 14) (nth d (ParenthesizedExpression ∷ []))
    (cond (k == 15) (option_map TypeScriptExpression (wrapper_of d)) None))))))))

abbrev pub compound_of : ℕ → ℕ → Option Kind
compound_of k d =
    cond (k == 16) (nth d (ArrayExpression ∷ []))
    (cond (k == 17) (nth d (ObjectExpression ∷ []))
    (cond (k == 18) (nth d (StaticMemberExpression ∷ []))
    (cond (k == 19) (nth d (ComputedMemberExpression ∷ []))
    (cond (k == 20) (nth d (PrivateFieldExpression ∷ []))
    (cond (k == 21) (nth d (PrivateInExpression ∷ []))
    (cond (k == 22) (nth d (ChainExpression ∷ []))
    (cond (k == 23) (nth d (CallExpression ∷ CallLike ∷ []))
    (cond (k == 24) (nth d (FunctionExpression ∷ ArrowFunctionExpression ∷ []))
    (cond (k == 25) (option_map ClassExpression (flag_of d)) None)))))))))

abbrev pub part_of : ℕ → ℕ → Option Kind
part_of k d =
    cond (k == 30) (nth d (SpreadElement ∷ []))
    (cond (k == 31) (nth d (Elision ∷ []))
    (cond (k == 32) (option_map ObjectProperty (property_of d))
    (cond (k == 33) (nth d (SpreadProperty ∷ []))
    (cond (k == 34) (nth d (Decorator ∷ []))
    (cond (k == 35) (option_map MethodDefinition (flag_of d))
    (cond (k == 36) (option_map PropertyDefinition (modifiers_of d))
    (cond (k == 37) (nth d (StaticBlock ∷ []))
    (cond (k == 38) (nth d (AssignmentTargetPattern ∷ []))
    (cond (k == 39) (nth d (VariableDeclarator ∷ []))
    (cond (k == 40) (option_map SwitchCase (flag_of d))
    (cond (k == 41) (nth d (CatchClause ∷ []))
    (cond (k == 42) (nth d (BindingIdentifier ∷ []))
    (cond (k == 43) (nth d (ArrayPattern ∷ []))
    (cond (k == 44) (nth d (ObjectPattern ∷ []))
    (cond (k == 45) (nth d (AssignmentPattern ∷ []))
    (cond (k == 46) (nth d (BindingProperty ∷ []))
    (cond (k == 47) (nth d (BindingRestElement ∷ [])) None)))))))))))))))))

abbrev pub statement_of : ℕ → ℕ → Option Kind
statement_of k d =
    cond (k == 50) (nth d (BlockStatement ∷ []))
    (cond (k == 51) (nth d (ExpressionStatement ∷ []))
    (cond (k == 52) (nth d (WhileStatement ∷ DoWhileStatement ∷ []))
    (cond (k == 53) (nth d (IfStatement ∷ []))
    (cond (k == 54) (nth d (LabeledStatement ∷ []))
    (cond (k == 55) (nth d (ReturnStatement ∷ []))
    (cond (k == 56) (nth d (SwitchStatement ∷ []))
    (cond (k == 57) (nth d (TryStatement ∷ []))
    (cond (k == 58) (nth d (EmptyStatement ∷ []))
    (cond (k == 59) (nth d (ActingStatement ∷ []))
    (cond (k == 60) (option_map VariableDeclaration (declared_of d))
    (cond (k == 61) (nth d (FunctionDeclaration ∷ []))
    (cond (k == 62) (option_map ClassDeclaration (flag_of d)) None))))))))))))

-- the kind of two numbers, if there is one
abbrev pub kind_of : ℕ → ℕ → Option Kind
kind_of k d = cond (nat_lt k 7) (primary_of k d) (cond (nat_lt k 16) (operation_of k d) (cond (nat_lt k 26) (compound_of k d) (cond (nat_lt k 50) (part_of k d) (statement_of k d))))

-- the kind of two numbers, or the error with them
abbrev pub Decodes : (ℕ × ℕ) → Result Kind UnknownKind → Type 0
Decodes numbers r = r ≡ ok_or (kind_of numbers.0 numbers.1) (record { kind = numbers.0; detail = numbers.1 })

-- the number of a kind, and that of its detail
abbrev pub number_of : Kind → ℕ
number_of Identifier = 1
number_of NullLiteral = 2
number_of BooleanLiteral = 2
number_of RegExpLiteral = 2
number_of ImportMeta = 2
number_of NewTarget = 2
number_of Super = 2
number_of NumericLiteral = 3
number_of BigIntLiteral = 4
number_of StringLiteral = 5
number_of TemplateLiteral = 6
number_of (UnaryExpression o) = 7
number_of UpdateExpression = 8
number_of (BinaryExpression o) = 9
number_of (LogicalExpression o) = 10
number_of (AssignmentExpression o) = 11
number_of ConditionalExpression = 12
number_of SequenceExpression = 13
number_of ParenthesizedExpression = 14
number_of (TypeScriptExpression o) = 15
number_of ArrayExpression = 16
number_of ObjectExpression = 17
number_of StaticMemberExpression = 18
number_of ComputedMemberExpression = 19
number_of PrivateFieldExpression = 20
number_of PrivateInExpression = 21
number_of ChainExpression = 22
number_of CallExpression = 23
number_of CallLike = 23
number_of FunctionExpression = 24
number_of ArrowFunctionExpression = 24
number_of (ClassExpression b) = 25
number_of SpreadElement = 30
number_of Elision = 31
number_of (ObjectProperty o) = 32
number_of SpreadProperty = 33
number_of Decorator = 34
number_of (MethodDefinition b) = 35
number_of (PropertyDefinition m) = 36
number_of StaticBlock = 37
number_of AssignmentTargetPattern = 38
number_of VariableDeclarator = 39
number_of (SwitchCase b) = 40
number_of CatchClause = 41
number_of BindingIdentifier = 42
number_of ArrayPattern = 43
number_of ObjectPattern = 44
number_of AssignmentPattern = 45
number_of BindingProperty = 46
number_of BindingRestElement = 47
number_of BlockStatement = 50
number_of ExpressionStatement = 51
number_of WhileStatement = 52
number_of DoWhileStatement = 52
number_of IfStatement = 53
number_of LabeledStatement = 54
number_of ReturnStatement = 55
number_of SwitchStatement = 56
number_of TryStatement = 57
number_of EmptyStatement = 58
number_of ActingStatement = 59
number_of (VariableDeclaration o) = 60
number_of FunctionDeclaration = 61
number_of (ClassDeclaration b) = 62

abbrev pub detail_of : Kind → ℕ
detail_of Identifier = 0
detail_of NullLiteral = 0
detail_of BooleanLiteral = 1
detail_of RegExpLiteral = 2
detail_of ImportMeta = 3
detail_of NewTarget = 4
detail_of Super = 5
detail_of NumericLiteral = 0
detail_of BigIntLiteral = 0
detail_of StringLiteral = 0
detail_of TemplateLiteral = 0
detail_of (UnaryExpression o) = unary_number o
detail_of UpdateExpression = 0
detail_of (BinaryExpression o) = binary_number o
detail_of (LogicalExpression o) = logical_number o
detail_of (AssignmentExpression o) = assignment_number o
detail_of ConditionalExpression = 0
detail_of SequenceExpression = 0
detail_of ParenthesizedExpression = 0
detail_of (TypeScriptExpression o) = wrapper_number o
detail_of ArrayExpression = 0
detail_of ObjectExpression = 0
detail_of StaticMemberExpression = 0
detail_of ComputedMemberExpression = 0
detail_of PrivateFieldExpression = 0
detail_of PrivateInExpression = 0
detail_of ChainExpression = 0
detail_of CallExpression = 0
detail_of CallLike = 1
detail_of FunctionExpression = 0
detail_of ArrowFunctionExpression = 1
detail_of (ClassExpression b) = flag b
detail_of SpreadElement = 0
detail_of Elision = 0
detail_of (ObjectProperty o) = property_number o
detail_of SpreadProperty = 0
detail_of Decorator = 0
detail_of (MethodDefinition b) = flag b
detail_of (PropertyDefinition m) = modifiers_number m
detail_of StaticBlock = 0
detail_of AssignmentTargetPattern = 0
detail_of VariableDeclarator = 0
detail_of (SwitchCase b) = flag b
detail_of CatchClause = 0
detail_of BindingIdentifier = 0
detail_of ArrayPattern = 0
detail_of ObjectPattern = 0
detail_of AssignmentPattern = 0
detail_of BindingProperty = 0
detail_of BindingRestElement = 0
detail_of BlockStatement = 0
detail_of ExpressionStatement = 0
detail_of WhileStatement = 0
detail_of DoWhileStatement = 1
detail_of IfStatement = 0
detail_of LabeledStatement = 0
detail_of ReturnStatement = 0
detail_of SwitchStatement = 0
detail_of TryStatement = 0
detail_of EmptyStatement = 0
detail_of ActingStatement = 0
detail_of (VariableDeclaration o) = declared_number o
detail_of FunctionDeclaration = 0
detail_of (ClassDeclaration b) = flag b
