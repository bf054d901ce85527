mod NothingPut
