mod WorkedWork
